-- What a frame's action leaves of the machine, whatever it changes.
use Rattle.std.proofs.Common.{◌≡◌, ℕ, ◌+◌, ◌-◌, ◌≤◌, ◌==◌, true, List, [], ◌∷◌, ◌++◌, length, Option, Some, refl, sym, ap, subst, ◌∙◌, arith, inl, inr}
use Rattle.std.specs.Option.{option_map_or}
use Rattle.std.proofs.lemmas.Bool.{cases_Bool, eq-eqb}
use Rattle.rl_defs.specs.declared.code.Instr.{Instr}
use Rattle.rl_defs.specs.DomainValue.{Domain}
use Rattle.rl_defs.specs.CodeKinds.{Kinds}
use Rattle.rl_defs.specs.Registers.{Typing}
use Rattle.machine_defs.specs.declared.values.Owner.TheVariants as owner
use Rattle.machine_defs.specs.declared.entry.Entry.{Entry}
use Rattle.machine_defs.specs.declared.frame.Action.{Action}
use Rattle.machine_defs.specs.declared.frame.Answer.{Answer}
use Rattle.machine_defs.specs.declared.frame.Answer.TheVariants as answer
use Rattle.machine_defs.specs.CodeFits.{FitsAnswer}
use Rattle.machine_defs.specs.Frames.{acting}
use Rattle.machine_laws.proofs.OwnFits.{BringsFit}
use Rattle.machine_defs.specs.LogValue.{LogValue}
use Rattle.machine_defs.specs.Arguments.{has}
use Rattle.machine_defs.specs.State.{Instance, StackFrame, Thread}
use Rattle.machine_defs.specs.Seen.{change_row}
use Rattle.machine_defs.specs.Calling.{with_fuel}
use Rattle.rl_defs.specs.Rows.{row}
use Rattle.rref_heap.specs.HeapValue.{HeapValue}
use Rattle.trampolines.specs.Laid.{Laid}
use Rattle.trampolines.specs.Words as words
use Rattle.machine_steps.specs.declared.machine.Machine.TheInside.{Inside}
use Rattle.machine_steps.specs.declared.standing.Standing.{Standing}
use Rattle.machine_steps.specs.Inside.{state_of, IsKept}
use Rattle.machine_steps.proofs.Stepping.{Logged}
use Rattle.machine_steps.proofs.Acting.{OnTop, CodeActs, answered_state, answered_frame, threads_same, stacks_same}

-- the action is logged, it is charged, and the frame has its answer
pub record GoneOn (w : Inside) (t i : ℕ) (stand : Standing) (a : Answer) (e : Entry) (log : LogValue) (stacks : Laid Action) (threads : List Thread) : Type 0 where
  pub entries : log.entries ≡ w.log.entries ++ e ∷ []
  pub spare : log.spare + 1 ≡ w.log.spare
  pub frames : (f : StackFrame) → words.top (words.stack_of w.stacks.frames t) ≡ Some f → stacks.frames ≡ words.with_stack_of w.stacks.frames t (words.below_top (words.stack_of w.stacks.frames t) ++ answered_frame w i stand f a ∷ [])
  pub counts : stacks.instances ≡ w.stacks.instances
  pub charged : threads ≡ change_row w.threads t (with_fuel (stand.fuel - 1)) (row w.threads t)

module _ {w : Inside} (k : IsKept w) {t i : ℕ} {act : Action} {stand : Standing} (acts : CodeActs w t i act stand) {a : Answer} {e : Entry} {log : LogValue} {stacks : Laid Action} {threads : List Thread} (on : GoneOn w t i stand a e log stacks threads) where
  pub frames_so : stacks.frames ≡ (answered_state w acts.on a).stacks
  frames_so = stacks_same acts a stacks.frames on.frames

  pub threads_so : threads ≡ (answered_state w acts.on a).threads
  threads_so = threads_same acts a threads on.charged

  -- no instance is opened, and the heap has room for as many owners as before
  pub logged_so : {heap : HeapValue} {instances : List Instance} {blocks : List (List ℕ)} → w.heap.clients ≤ heap.clients → w.heap.instances ≤ heap.instances → length instances ≡ length w.instances
      → Logged w (record w { log = log; heap = heap; instances = instances; stacks = stacks; threads = threads; blocks = blocks }) e []
  logged_so clients owners n = record {
    load = refl;
    proxies = refl;
    entries = on.entries;
    spare = omega (arith, on.spare);
    counts = omega (arith, on.counts, n, k.rooms.counts);
    clients = clients;
    owners = omega (arith, n, owners, k.rooms.owners);
  }

-- a number stands in the list of it alone, and in one that it begins
pub has_first : (o : ℕ) (os : List ℕ) → has (o ∷ os) o ≡ true
has_first o os = rw (eq-eqb o o refl) refl

pub has_second : (p o : ℕ) → has (p ∷ (o ∷ [])) o ≡ true
has_second p o = elim (cases_Bool (p == o)) [ inl e ↦ rw e refl | inr e ↦ rw (e, eq-eqb o o refl) refl ]

-- who acts is the instance of the top frame
pub acting_is : {w : Inside} {t i : ℕ} {act : Action} {stand : Standing} → OnTop w t i act stand → acting (state_of w) t ≡ owner.Instance i
acting_is {w} {t} {i} on =
    ap (λ (f : Option StackFrame). option_map_or (λ x. owner.Instance x.instance) f (owner.Client t)) on.acts.on_top ∙ ap owner.Instance (ap (λ f. f.instance) on.same ∙ sym on.inside)

-- the object that an action brings fits as its answer
pub brought : {types : Typing} {d : Domain} {kinds : Kinds} {i : Instr} {from : Option ℕ} {o : ℕ} → BringsFit types d kinds i from → from ≡ Some o → FitsAnswer types d kinds i (answer.Made o)
brought {types} {d} {kinds} {i} {from} {o} b is =
    let e : Some b.object ≡ Some o = sym b.there ∙ is in
    let same : b.object ≡ o = cc in
    subst (λ p. FitsAnswer types d kinds i (answer.Made p)) same b.answers
