-- Frames that come and go: what a pushed, popped or changed frame makes of the ledger.
use Rattle.std.proofs.Common.{◌≡◌, ℕ, ◌-◌, ◌<◌, ◌≤◌, ◌==◌, Bool, List, [], ◌∷◌, ◌++◌, length, Some, refl, ap, ap₂, ◌∙◌, inl, inr}
use Rattle.std.proofs.lemmas.List.{length-set}
use mathlib.Core.Path.{fun_ext}
use Rattle.std.proofs.lemmas.Bool.{cases_Bool}
use Rattle.rl_defs.specs.declared.load.LoadRows.{LoadRows}
use Rattle.machine_defs.specs.State.{State, StackFrame, Thread, stack, with_stack, with_thread}
use Rattle.rl_defs.specs.Rows.{row}
use Rattle.machine_defs.specs.Frames.{below_top, popped, with_body}
use Rattle.machine_defs.specs.Sound.{own_of}
use Rattle.machine_laws.specs.Ledger.{LedgerFrame, at}
use Rattle.machine_laws.specs.LedgerOf.{frame_entry, names_held, ledger_of}
use Rattle.machine_laws.specs.LedgerRows.{with_own}
use Rattle.machine_laws.specs.Shape.{Laid}
use Rattle.machine_laws.proofs.Stacks.{entries_push}
use Rattle.machine_laws.proofs.Tops.{bottom, entries, under, client_within, stacks_at, stacks_with, thread_at, frames_at, done_same}
use Rattle.machine_laws.proofs.FrameRows.{gone_on, entry_same}

pub at_twice : {A : Type 0} (k : ℕ) (x y : A) (f : ℕ → A) → at k x (at k y f) ≡ at k x f
at_twice k x y f = fun_ext (λ j. elim (cases_Bool (j == k)) [ inl e ↦ rw e refl | inr e ↦ rw e refl ])

-- a thread whose names and doing are as they were
pub record Alike (old new : Thread) : Type 0 where
  pub names : new.names ≡ old.names
  pub done : new.done ≡ old.done

pub gone_ledger : (L : LoadRows) (s : State) (t : ℕ) (f g : StackFrame) (old new : Thread) → Laid L s → row s.threads t ≡ Some old → Alike old new → g ≡ with_body f g.body
    → ledger_of L (gone_on s t g new) ≡ record (ledger_of L s) { stack = with_own t (frame_entry f) (own_of g) (under s t) ((ledger_of L s).stack) }
gone_ledger L s t f g old new laid of alike is =
    let w = client_within L s t old laid of in
    let all' = stacks_at L s t (below_top (stack s t) ++ g ∷ []) new laid w.0 w.1 in
    let push = entries_push (below_top (stack s t)) g (bottom t (Some new) ∷ []) in
    let same = entry_same f g is in
    let below : entries t (below_top (stack s t)) (Some new) ≡ under s t = rw (of, ← alike.names) refl in
    let stacks : stacks_with s t (below_top (stack s t) ++ g ∷ []) new ≡ with_own t (frame_entry f) (own_of g) (under s t) ((ledger_of L s).stack)
    = all' ∙ ap (λ fs. at t fs ((ledger_of L s).stack)) (push ∙ ap (λ e. e ∷ entries t (below_top (stack s t)) (Some new)) same ∙ ap (λ fs. record (frame_entry f) { own = own_of g } ∷ fs) below) in
    ap₂ (λ (st : ℕ → List LedgerFrame) (done : ℕ → Bool). record (ledger_of L s) { stack = st; done = done }) stacks (done_same L s t old new of alike.done)

-- a frame that is pushed
pub pushed_ledger : (L : LoadRows) (s : State) (t : ℕ) (g : StackFrame) → Laid L s → 0 < t → t ≤ length L.clients
    → ledger_of L (with_stack s t (stack s t ++ g ∷ [])) ≡ record (ledger_of L s) { stack = at t (frame_entry g ∷ (ledger_of L s).stack t) ((ledger_of L s).stack) }
pushed_ledger L s t g laid pos le =
    let all' = frames_at L s t (stack s t ++ g ∷ []) laid pos le in
    let push = entries_push (stack s t) g (bottom t (row s.threads t) ∷ []) in
    ap (λ (st : ℕ → List LedgerFrame). record (ledger_of L s) { stack = st }) (all' ∙ ap (λ fs. at t fs ((ledger_of L s).stack)) push)

-- the top frame that is popped
pub popped_ledger : (L : LoadRows) (s : State) (t : ℕ) → Laid L s → 0 < t → t ≤ length L.clients
    → ledger_of L (popped t s) ≡ record (ledger_of L s) { stack = at t (under s t) ((ledger_of L s).stack) }
popped_ledger L s t laid pos le = ap (λ (st : ℕ → List LedgerFrame). record (ledger_of L s) { stack = st }) (frames_at L s t (below_top (stack s t)) laid pos le)

-- a thread that changes where it has no frame
pub thread_ledger : (L : LoadRows) (s : State) (t : ℕ) (old new : Thread) → Laid L s → row s.threads t ≡ Some old → new.done ≡ old.done → stack s t ≡ []
    → ledger_of L (with_thread s t new) ≡ record (ledger_of L s) { stack = with_own t (bottom t (Some old)) (names_held (Some new)) [] ((ledger_of L s).stack) }
thread_ledger L s t old new laid of same none =
    let w = client_within L s t old laid of in
    let all' = thread_at L s t new laid w.0 w.1 in
    let here : entries t (stack s t) (Some new) ≡ record (bottom t (Some old)) { own = names_held (Some new) } ∷ [] = rw none refl in
    ap₂ (λ (st : ℕ → List LedgerFrame) (done : ℕ → Bool). record (ledger_of L s) { stack = st; done = done }) (all' ∙ ap (λ fs. at t fs ((ledger_of L s).stack)) here) (done_same L s t old new of same)

-- what stays laid out
pub laid_stack : (L : LoadRows) (s : State) (t : ℕ) (frames : List StackFrame) → Laid L s → Laid L (with_stack s t frames)
laid_stack L s t frames laid = record {
  stacks = length-set s.stacks (t - 1) frames ∙ laid.stacks;
  threads = laid.threads;
  shadows = laid.shadows;
  objects = laid.objects;
  started = laid.started;
}

pub laid_thread : (L : LoadRows) (s : State) (t : ℕ) (thread : Thread) → Laid L s → Laid L (with_thread s t thread)
laid_thread L s t thread laid = record {
  stacks = laid.stacks;
  threads = length-set s.threads (t - 1) thread ∙ laid.threads;
  shadows = laid.shadows;
  objects = laid.objects;
  started = laid.started;
}
