-- The actions of frames are rows of the ledger. What the premises say of the frame's own objects comes from what its code or body is.
use Rattle.std.proofs.Common.{◌≡◌, ℕ, ◌-◌, Bool, true, List, [], ◌∷◌, ◌++◌, Some, refl, ap, sym, subst, ap₂, ◌∙◌}
use Rattle.std.proofs.lemmas.List.{length-set}
use Rattle.machine_defs.specs.declared.values.Owner.TheVariants as owner
use Rattle.machine_defs.specs.declared.frame.Action.{Action}
use Rattle.machine_defs.specs.declared.frame.Answer.{Answer}
use Rattle.machine_defs.specs.declared.frame.FrameBody.{FrameBody}
use Rattle.machine_defs.specs.declared.frame.FrameBody.TheVariants as body
use Rattle.rl_defs.specs.declared.load.LoadRows.{LoadRows}
use Rattle.machine_defs.specs.State.{State, StackFrame, Thread, is_live, stack, with_thread}
use Rattle.rl_defs.specs.Rows.{row}
use Rattle.machine_defs.specs.Calling.{is_undone}
use Rattle.machine_defs.specs.Frames.{AnswersBody, below_top, with_top, with_body}
use Rattle.machine_defs.specs.Calling.{with_fuel}
use Rattle.machine_defs.specs.ObjectRows.{Does}
use Rattle.machine_defs.specs.Sound.{own_of}
use Rattle.machine_laws.specs.Ledger.{LedgerFrame, at}
use Rattle.machine_laws.specs.LedgerOf.{frame_entry, ledger_of}
use Rattle.machine_laws.specs.LedgerRows.{Runs, with_own}
use Rattle.machine_laws.specs.Shape.{Laid}
use Rattle.machine_laws.proofs.Stacks.{entries_push}
use Rattle.machine_laws.proofs.Tops.{bottom, under, entries, client_within, stacks_at, stacks_with, done_same, runs_frame}
use Rattle.machine_laws.proofs.Acting.{ActsAs, acts_as}

-- an answered frame is the frame with another body
pub answered_same : (L : LoadRows) (z : State) (f : StackFrame) (a : Answer) (b : FrameBody Action) (g : StackFrame) → AnswersBody L z f a b g → g ≡ with_body f g.body
answered_same L z f a (body.Code at regs) g is = rw is refl
answered_same L z f a (body.Native held act) g is = rw is.1 refl

-- the entry of a frame with another body
pub entry_same : (f g : StackFrame) → g ≡ with_body f g.body → frame_entry g ≡ record (frame_entry f) { own = own_of g }
entry_same f g is = go g.body is
  where
    go : (b : FrameBody Action) → g ≡ with_body f b → frame_entry g ≡ record (frame_entry f) { own = own_of g }
    go b e = rw e refl

pub body_twice : (f g h : StackFrame) → g ≡ with_body f g.body → h ≡ with_body g h.body → h ≡ with_body f h.body
body_twice f g h a b = b ∙ ap (λ x. with_body x h.body) a

-- the state in which the top frame of a thread has gone on, and the thread has been charged
abbrev pub gone_on : State → ℕ → StackFrame → Thread → State
gone_on s t g thread = with_top t g (with_thread s t thread)

pub laid_on : (L : LoadRows) (s : State) (t : ℕ) (g : StackFrame) (thread : Thread) → Laid L s → Laid L (gone_on s t g thread)
laid_on L s t g thread laid = record {
  stacks = length-set s.stacks (t - 1) (below_top (stack s t) ++ g ∷ []) ∙ laid.stacks;
  threads = length-set s.threads (t - 1) thread ∙ laid.threads;
  shadows = laid.shadows;
  objects = laid.objects;
  started = laid.started;
}

module _ {L : LoadRows} {s : State} {t i : ℕ} {act : Action} {a : Answer} {change : State → State} {z : State} (laid : Laid L s) (ready : is_undone (row s.threads t) ≡ true) (d : Does L s t i act a change z) where
  abbrev pub doing : ActsAs L s t act d.fuel d.frame
  doing = acts_as L s t act d.fuel d.frame d.wants

  -- the frame that acts, as it lies on the stack
  abbrev pub actor : StackFrame
  actor = doing.f

  pub actor_after : d.after ≡ with_body actor d.after.body
  actor_after = body_twice actor d.frame d.after doing.same (answered_same L z d.frame a d.frame.body d.after d.answers)

  pub actor_inside : owner.Instance actor.instance ≡ owner.Instance i
  actor_inside = let same : d.frame.instance ≡ actor.instance = ap (λ (g : StackFrame). g.instance) doing.same in let e : actor.instance ≡ i = sym same ∙ sym d.inside in ap owner.Instance e

  pub actor_runs : Runs L (ledger_of L s) t (frame_entry actor) (under s t)
  actor_runs = runs_frame L s t doing.thread actor laid doing.of ready doing.on_top doing.lives

  pub actor_lives : is_live s i ≡ true
  actor_lives = let e : actor.instance ≡ i = sym (ap (λ (g : StackFrame). g.instance) doing.same) ∙ sym d.inside in subst (λ n. is_live s n ≡ true) e doing.lives

  abbrev pub charged : State
  charged = gone_on s t d.after (with_fuel (d.fuel - 1) d.thread)

  abbrev pub stacks_after : ℕ → List LedgerFrame
  stacks_after = with_own t (frame_entry actor) (own_of d.after) (under s t) ((ledger_of L s).stack)

  pub charged_stacks : stacks_with s t (below_top (stack s t) ++ d.after ∷ []) (with_fuel (d.fuel - 1) d.thread) ≡ stacks_after
  charged_stacks =
      let w = client_within L s t d.thread laid d.of in
      let all' = stacks_at L s t (below_top (stack s t) ++ d.after ∷ []) (with_fuel (d.fuel - 1) d.thread) laid w.0 w.1 in
      let push = entries_push (below_top (stack s t)) d.after (bottom t (Some (with_fuel (d.fuel - 1) d.thread)) ∷ []) in
      let same = entry_same actor d.after actor_after in
      let below : entries t (below_top (stack s t)) (Some (with_fuel (d.fuel - 1) d.thread)) ≡ under s t = (let e : entries t (below_top (stack s t)) (Some d.thread) ≡ under s t = rw d.of refl in e) in
      all' ∙ ap (λ fs. at t fs ((ledger_of L s).stack)) (push ∙ ap (λ f. f ∷ entries t (below_top (stack s t)) (Some d.thread)) same ∙ ap (λ fs. record (frame_entry actor) { own = own_of d.after } ∷ fs) below)

  pub charged_done : (ledger_of L charged).done ≡ (ledger_of L s).done
  charged_done = done_same L s t d.thread (with_fuel (d.fuel - 1) d.thread) d.of refl

  pub charged_ledger : ledger_of L charged ≡ record (ledger_of L s) { stack = stacks_after }
  charged_ledger = ap₂ (λ (st : ℕ → List LedgerFrame) (done : ℕ → Bool). record (ledger_of L s) { stack = st; done = done }) charged_stacks charged_done

  pub charged_laid : Laid L charged
  charged_laid = laid_on L s t d.after (with_fuel (d.fuel - 1) d.thread) laid
