-- The state in which a frame's call is charged: the frame waits, and nothing else of the stacks changed.
use Rattle.std.proofs.Common.{◌≡◌, ◌≢◌, ℕ, ◌-◌, ◌<◌, ◌≤◌, true, List, [], ◌∷◌, ◌++◌, length, slice_set, ap, sym, ◌∙◌}
use Rattle.std.proofs.lemmas.List.{length-set}
use Rattle.machine_defs.specs.declared.frame.Action.{Action}
use Rattle.machine_defs.specs.declared.frame.FrameBody.TheVariants as body
use Rattle.rl_defs.specs.declared.load.LoadRows.{LoadRows}
use Rattle.rl_defs.specs.Registers.{Registers}
use Rattle.machine_defs.specs.State.{State, StackFrame, stack, frames_of}
use Rattle.rl_defs.specs.Rows.{row}
use Rattle.machine_defs.specs.Calling.{Wish, is_undone}
use Rattle.machine_defs.specs.Arguments.{moved_of}
use Rattle.machine_defs.specs.Seen.{domain_of_instance}
use Rattle.machine_defs.specs.Frames.{below_top, waiting_body}
use Rattle.machine_defs.specs.Calling.{with_fuel}
use Rattle.machine_laws.specs.LedgerOf.{ledger_of}
use Rattle.machine_laws.specs.LedgerSound.{Owned}
use Rattle.machine_laws.specs.Shape.{Laid}
use Rattle.machine_laws.specs.Fitting.{Fitting}
use Rattle.machine_laws.proofs.Rows.{row_set_same, row_set_other}
use Rattle.machine_laws.proofs.FrameRows.{gone_on}
use Rattle.machine_laws.proofs.Wishes.{FrameWish}
use Rattle.machine_laws.proofs.Callers.{caller_frame, waits, native_calls}
use Rattle.machine_laws.proofs.EndSteps.{ready_within}
use Rattle.rl_defs.specs.Valid.{Valid, AreValidTables}

module _ (L : LoadRows) (s : State) (plans : Valid L) (tables : AreValidTables L.tables) (laid : Laid L s) (owned : Owned L (ledger_of L s)) (fits : Fitting L s) (t : ℕ) (ready : is_undone (row s.threads t) ≡ true) (w : Wish) (wished : FrameWish L s t w) where
  abbrev caller : StackFrame
  caller = caller_frame L s t plans tables laid owned fits ready w wished

  abbrev waiting_caller : StackFrame
  waiting_caller = waits L s t plans tables laid owned fits ready w wished

  -- a native body that waits is native still
  pub native_waits : (held : List ℕ) (kept : Action) → caller.body ≡ body.Native held kept → (at : ℕ) (regs : Registers) → waiting_caller.body ≡ body.Code at regs → ⊥
  native_waits held kept is at regs e =
      let same = (native_calls L s t plans tables laid owned fits ready w wished held kept is).0 in
      let e' : waiting_body (domain_of_instance L s caller.instance) (moved_of w.args) (body.Native held kept) ≡ body.Code at regs = sym (ap (waiting_body (domain_of_instance L s caller.instance) (moved_of w.args)) is) ∙ sym (ap (λ (h : StackFrame). waiting_body (domain_of_instance L s h.instance) (moved_of w.args) h.body) same) ∙ e in
      cc

  abbrev pub charged_is : w.charged ≡ gone_on s t waiting_caller (with_fuel (wished.fuel - 1) wished.thread)
  charged_is = ap (λ (v : Wish). v.charged) wished.is

  within : (0 < t) × (t ≤ length s.stacks)
  within = ready_within L s t laid ready

  pub stack_charged : stack w.charged t ≡ below_top (stack s t) ++ waiting_caller ∷ []
  stack_charged = ap (λ (v : State). stack v t) charged_is ∙ ap frames_of (row_set_same s.stacks t (below_top (stack s t) ++ waiting_caller ∷ []) within.0 within.1)

  stacks_charged : w.charged.stacks ≡ slice_set s.stacks (t - 1) (below_top (stack s t) ++ waiting_caller ∷ [])
  stacks_charged = ap (λ (v : State). v.stacks) charged_is

  pub instances_charged : w.charged.instances ≡ s.instances
  instances_charged = ap (λ (v : State). v.instances) charged_is

  pub others_charged : (u : ℕ) → u ≢ t → stack w.charged u ≡ stack s u
  others_charged u ne = ap (λ st. frames_of (row st u)) stacks_charged ∙ ap frames_of (row_set_other s.stacks t u (below_top (stack s t) ++ waiting_caller ∷ []) within.0 ne)

  pub count_charged : length w.charged.stacks ≡ length s.stacks
  count_charged = ap (λ xs. length xs) stacks_charged ∙ length-set s.stacks (t - 1) (below_top (stack s t) ++ waiting_caller ∷ [])
