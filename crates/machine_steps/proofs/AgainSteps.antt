-- A call that is issued again is a step of the machine.
use Rattle.std.proofs.Common.{◌≡◌, ℕ, ◌+◌, ◌<◌, ◌≤◌, true, false, not, List, [], ◌∷◌, ◌++◌, length, Some, refl, sym, ap, subst, ◌∙◌, arith}
use Rattle.std.specs.Option.{option_map_or}
use Rattle.std.proofs.lemmas.Bool.{and_parts}
use Rattle.machine_defs.specs.declared.entry.Entry.TheVariants as entry
use Rattle.machine_defs.specs.declared.frame.Action.{Action}
use Rattle.machine_defs.specs.LogValue.{LogValue}
use Rattle.rl_defs.specs.declared.load.LoadRows.{LoadRows}
use Rattle.rl_defs.specs.Domains.{load_of_target, method_of}
use Rattle.rl_defs.specs.Rows.{row, domain_of_load, is_target}
use Rattle.machine_defs.specs.State.{State, StackFrame, stack, top}
use Rattle.machine_defs.specs.Calling.{is_shadow, is_idempotent}
use Rattle.machine_defs.specs.Frames.{Begins, with_top, below_top}
use Rattle.machine_defs.specs.Seen.{types_of}
use Rattle.machine_defs.specs.Steps.{Row}
use Rattle.rl_defs.proofs.ValidFacts.{method_kept, moves_none}
use Rattle.machine_laws.proofs.Rows.{row_within}
use Rattle.machine_laws.proofs.Stacks.{top_splits}
use Rattle.machine_laws.proofs.Instances.{live_there}
use Rattle.machine_laws.specs.Fitting.{CallFits}
use Rattle.machine_laws.proofs.CallSteps.{not_waiting}
use Rattle.machine_laws.proofs.EndSteps.{top_call, moves_nothing, ready_within}
use Rattle.machine_laws.proofs.AgainFits.{stands_suits}
use Rattle.machine_laws.proofs.BegunFits.{arguments_fit}
use Rattle.code_machine.specs.Fitting.{Enters}
use Rattle.trampolines.specs.Laid.{Laid}
use Rattle.trampolines.specs.Words as words
use Rattle.trampolines.proofs.Agreeing.{same_top, same_frames}
use Rattle.machine_steps.specs.declared.machine.Machine.TheInside.{Inside}
use Rattle.machine_steps.specs.Kept.{MayStep}
use Rattle.machine_steps.specs.Inside.{state_of, kept, IsKept}
use Rattle.machine_steps.specs.Known.{Known}
use Rattle.machine_steps.specs.Calls.{MayIssueAgain}
use Rattle.machine_steps.proofs.Stepping.{Stepped, goes_quietly, agrees_lent}
use Rattle.machine_steps.proofs.Acting.{holds, ledger, same_parts}
use Rattle.machine_steps.proofs.Stacked.{stack_set, pushed_on, below_is, one_frame}

module _ {w : Inside} (k : IsKept w) (t c x i : ℕ) (may : MayStep (kept w) t) (again : MayIssueAgain (kept w) t c x i) where
  abbrev L : LoadRows
  L = w.load

  abbrev s : State
  s = state_of w

  abbrev dead : StackFrame
  dead = again.frame

  -- its client, and the frame on top
  pub dead_client : (0 < t) × (t ≤ length w.stacks.frames)
  dead_client = ready_within L s t (holds k).laid (not_waiting L s t may.enabled).0

  on_top : words.top (words.stack_of w.stacks.frames t) ≡ Some dead
  on_top = same_top (words.stack_of w.stacks.frames t) ∙ (ap top (same_frames (row w.stacks.frames t)) ∙ again.of.on_top)

  pub dead_there : 0 < length (words.stack_of w.stacks.frames t)
  dead_there = go (words.stack_of w.stacks.frames t) on_top
    where
      go : (fs : List StackFrame) → words.top fs ≡ Some dead → 0 < length fs
      go [] e = absurd cc
      go (f ∷ fs) e = omega arith

  pub dead_is : (f : StackFrame) → words.top (words.stack_of w.stacks.frames t) ≡ Some f → f ≡ dead
  dead_is f is = one_frame f dead is on_top

  -- what its call is of
  call : CallFits L s dead
  call = top_call L s k.valid k.valid.tables (holds k).laid (ledger k).owned (holds k).fits t dead again.of.on_top

  pub again_target : is_target L x ≡ true
  again_target = subst (λ n. is_target L n ≡ true) (sym again.through) call.target

  pub again_enters : (f : StackFrame) → words.top (words.stack_of w.stacks.frames t) ≡ Some f → Enters (domain_of_load L (load_of_target L x)) f.method f.args
  again_enters f is = subst (λ (g : StackFrame). Enters (domain_of_load L (load_of_target L x)) g.method g.args) (sym (dead_is f is)) (record {
    code = k.code (load_of_target L x);
    types = types_of L s;
    given =
        let parts = and_parts (is_shadow L dead.target) (is_idempotent L dead.target dead.method) again.reissuable in
        let idem : call.method.idempotent ≡ true = subst (λ m. option_map_or (λ method. method.idempotent) m false ≡ true) call.row parts.1 in
        let none = moves_nothing (types_of L s) call.method.params dead.args (moves_none L.tables call.method (method_kept L k.valid dead.target dead.method call.method call.row) idem) call.args in
        arguments_fit L x dead.method dead.args (types_of L s) call.method k.valid again_target
        (subst (λ n. method_of L n dead.method ≡ Some call.method) (sym again.through) call.row)
        (stands_suits (types_of L s) call.method.params dead.args none call.args);
  })

  -- there is room on the stack, and a count of frames of the instance
  pub again_room : (known : Known) (stacks : Laid Action) → stacks.frames ≡ words.with_stack_of w.stacks.frames t (words.below_top (words.stack_of w.stacks.frames t)) → length (words.stack_of stacks.frames t) < 31
  again_room known stacks popped =
      let high = (known.sound L w.log.entries s k.valid k.run).laid.heights t in
      let split : length (stack s t) ≡ length (below_top (stack s t) ++ dead ∷ []) = ap length (top_splits (stack s t) dead again.of.on_top) in
      let below : length (words.stack_of stacks.frames t) ≡ length (below_top (stack s t)) = ap (λ frames. length (words.stack_of frames t)) popped ∙ ap length (stack_set w.stacks.frames t (words.below_top (words.stack_of w.stacks.frames t)) dead_client ∙ below_is w.stacks.frames t) in
      omega (arith, high, split, below, Rattle.std.proofs.lemmas.List.length-append (below_top (stack s t)) (dead ∷ []))

  pub again_counted : (stacks : Laid Action) (f frame : StackFrame) → stacks.instances ≡ w.stacks.instances → ((made : State) → Begins L made c x i f.method f.args frame) → (0 < frame.instance) × (frame.instance ≤ stacks.instances)
  again_counted stacks f frame counts begins =
      let there = live_there s i again.lives in
      let within = row_within w.instances i there.0 there.1 in
      let inside : frame.instance ≡ i = ap (λ (f : StackFrame). f.instance) (begins s).is in
      (omega (arith, inside, within.0), omega (arith, inside, within.1, counts, k.rooms.counts))

  pub again_goes : (known : Known) {log : LogValue} {mid stacks : Laid Action} {f frame : StackFrame} → words.top (words.stack_of w.stacks.frames t) ≡ Some f → ((made : State) → Begins L made c x i f.method f.args frame)
      → log.entries ≡ w.log.entries ++ entry.Again t c x i ∷ [] → log.spare + 1 ≡ w.log.spare
      → mid.frames ≡ words.with_stack_of w.stacks.frames t (words.below_top (words.stack_of w.stacks.frames t)) → mid.instances ≡ w.stacks.instances
      → stacks.frames ≡ words.with_stack_of mid.frames t (words.stack_of mid.frames t ++ frame ∷ []) → stacks.instances ≡ mid.instances
      → Stepped w (record w { log = log; stacks = stacks }) (entry.Again t c x i)
  again_goes known {log} {mid} {stacks} {f} {frame} is begins entries spare popped count pushed count' =
      let made : State = with_top t frame s in
      let begins' : Begins L made c x i dead.method dead.args frame = subst (λ (g : StackFrame). Begins L made c x i g.method g.args frame) (dead_is f is) (begins made) in
      let makes : Row L s (entry.Again t c x i) made = record {
        dead = dead;
        frame = frame;
        of = record { on_top = again.of.on_top; dead = ap not again.of.dead; call = again.of.call };
        through = again.through;
        reissuable = again.reissuable;
        into = again.into;
        lives = again.lives;
        begins = begins';
        becomes = refl;
      } in
      let frames : stacks.frames ≡ made.stacks = pushed_on w.stacks.frames mid.frames stacks.frames t (words.below_top (words.stack_of w.stacks.frames t)) frame dead_client popped pushed
      ∙ ap (λ below. words.with_stack_of w.stacks.frames t (below ++ frame ∷ [])) (below_is w.stacks.frames t) in
      goes_quietly known (entry.Again t c x i) made k may makes refl
      (same_parts refl refl frames refl refl refl refl refl)
      (record { load = refl; proxies = refl; entries = entries; spare = omega (arith, spare); counts = omega (arith, count, count', k.rooms.counts); clients = omega arith; owners = k.rooms.owners })
      (agrees_lent L s made w.heap.rows (known.loans L w.log.entries s made (entry.Again t c x i) k.valid k.run may.enabled makes) k.agrees)
