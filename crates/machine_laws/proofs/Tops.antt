-- The top of a stack in the ledger, and what a changed thread or stack makes of the ledger.
use Rattle.std.proofs.Common.{◌≡◌, ℕ, ◌-◌, ◌<◌, ◌≤◌, Bool, true, false, not, List, [], ◌∷◌, length, Option, Some, slice_set, refl, ap, ◌∙◌, arith, inl, inr}
use mathlib.Core.Path.{fun_ext}
use Rattle.std.proofs.lemmas.Bool.{cases_eq}
use Rattle.machine_defs.specs.declared.values.Owner.TheVariants as owner
use Rattle.rl_defs.specs.declared.load.LoadRows.{LoadRows}
use Rattle.machine_defs.specs.State.{State, StackFrame, Thread, is_live, stack, frames_of}
use Rattle.rl_defs.specs.Rows.{row}
use Rattle.machine_defs.specs.Calling.{is_undone}
use Rattle.machine_defs.specs.State.{top}
use Rattle.machine_defs.specs.Frames.{below_top}
use Rattle.machine_laws.specs.Ledger.{LedgerFrame, at}
use Rattle.machine_laws.specs.LedgerOf.{frame_entry, entries_of, names_held, is_done, ledger_of}
use Rattle.machine_laws.specs.LedgerRows.{Runs, IsDead}
use Rattle.machine_laws.specs.Shape.{Laid}
use Rattle.machine_laws.proofs.Rows.{at_same, at_other, row_within, row_set_same, row_set_other}
use Rattle.machine_laws.proofs.Stacks.{entries_push, top_splits}

-- the client's own frame, by what its thread is
abbrev pub bottom : ℕ → Option Thread → LedgerFrame
bottom t thread = record { party = owner.Client t; call = 0; target = 0; method = 0; args = []; lent = []; own = names_held thread }

abbrev pub entries : ℕ → List StackFrame → Option Thread → List LedgerFrame
entries t frames thread = entries_of frames (bottom t thread ∷ [])

-- the frames under the top one
abbrev pub under : State → ℕ → List LedgerFrame
under s t = entries t (below_top (stack s t)) (row s.threads t)

pub entries_top : (s : State) (t : ℕ) (f : StackFrame) → top (stack s t) ≡ Some f → entries t (stack s t) (row s.threads t) ≡ frame_entry f ∷ under s t
entries_top s t f on_top =
    let split = top_splits (stack s t) f on_top in
    let push = entries_push (below_top (stack s t)) f (bottom t (row s.threads t) ∷ []) in
    ap (λ fs. entries t fs (row s.threads t)) split ∙ push

-- the client of a thread
pub client_within : (L : LoadRows) (s : State) (t : ℕ) (thread : Thread) → Laid L s → row s.threads t ≡ Some thread → (0 < t) × (t ≤ length L.clients)
client_within L s t thread laid of = let w = row_within s.threads t thread of in (w.0, (let e = laid.threads in let b = w.1 in omega arith))

pub client_stack : (L : LoadRows) (s : State) (t : ℕ) (thread : Thread) → Laid L s → row s.threads t ≡ Some thread → (0 < t) × (t ≤ length s.stacks)
client_stack L s t thread laid of = let w = client_within L s t thread laid of in (w.0, (let e = laid.stacks in let b = w.1 in omega (arith, e, b)))

-- stacks, with this stack and thread of a client
abbrev pub stacks_with : State → ℕ → List StackFrame → Thread → ℕ → List LedgerFrame
stacks_with s t frames thread u = entries u (frames_of (row (slice_set s.stacks (t - 1) frames) u)) (row (slice_set s.threads (t - 1) thread) u)

pub stacks_at : (L : LoadRows) (s : State) (t : ℕ) (frames : List StackFrame) (thread : Thread) → Laid L s → 0 < t → t ≤ length L.clients
    → stacks_with s t frames thread ≡ at t (entries t frames (Some thread)) ((ledger_of L s).stack)
stacks_at L s t frames thread laid pos le = fun_ext (λ u. each u)
  where
    each : (u : ℕ) → stacks_with s t frames thread u ≡ at t (entries t frames (Some thread)) ((ledger_of L s).stack) u
    each u = elim (cases_eq u t) [
      | inl e ↦
          let a = row_set_same s.stacks t frames pos (let e' = laid.stacks in omega arith) in
          let b = row_set_same s.threads t thread pos (let e' = laid.threads in omega arith) in
          rw (e, a, b, at_same t (entries t frames (Some thread)) ((ledger_of L s).stack)) refl
      | inr ne ↦
          let a = row_set_other s.stacks t u frames pos ne in
          let b = row_set_other s.threads t u thread pos ne in
          rw (a, b, at_other t (entries t frames (Some thread)) ((ledger_of L s).stack) u ne) refl
    ]

-- the same where the thread alone changes, or the stack alone
abbrev pub stacks_with_thread : State → ℕ → Thread → ℕ → List LedgerFrame
stacks_with_thread s t thread u = entries u (stack s u) (row (slice_set s.threads (t - 1) thread) u)

pub thread_at : (L : LoadRows) (s : State) (t : ℕ) (thread : Thread) → Laid L s → 0 < t → t ≤ length L.clients
    → stacks_with_thread s t thread ≡ at t (entries t (stack s t) (Some thread)) ((ledger_of L s).stack)
thread_at L s t thread laid pos le = fun_ext (λ u. each u)
  where
    each : (u : ℕ) → stacks_with_thread s t thread u ≡ at t (entries t (stack s t) (Some thread)) ((ledger_of L s).stack) u
    each u = elim (cases_eq u t) [
      | inl e ↦
          let b = row_set_same s.threads t thread pos (let e' = laid.threads in omega arith) in
          rw (e, b, at_same t (entries t (stack s t) (Some thread)) ((ledger_of L s).stack)) refl
      | inr ne ↦
          let b = row_set_other s.threads t u thread pos ne in
          rw (b, at_other t (entries t (stack s t) (Some thread)) ((ledger_of L s).stack) u ne) refl
    ]

abbrev pub stacks_with_frames : State → ℕ → List StackFrame → ℕ → List LedgerFrame
stacks_with_frames s t frames u = entries u (frames_of (row (slice_set s.stacks (t - 1) frames) u)) (row s.threads u)

pub frames_at : (L : LoadRows) (s : State) (t : ℕ) (frames : List StackFrame) → Laid L s → 0 < t → t ≤ length L.clients
    → stacks_with_frames s t frames ≡ at t (entries t frames (row s.threads t)) ((ledger_of L s).stack)
frames_at L s t frames laid pos le = fun_ext (λ u. each u)
  where
    each : (u : ℕ) → stacks_with_frames s t frames u ≡ at t (entries t frames (row s.threads t)) ((ledger_of L s).stack) u
    each u = elim (cases_eq u t) [
      | inl e ↦
          let a = row_set_same s.stacks t frames pos (let e' = laid.stacks in omega arith) in
          rw (e, a, at_same t (entries t frames (row s.threads t)) ((ledger_of L s).stack)) refl
      | inr ne ↦
          let a = row_set_other s.stacks t u frames pos ne in
          rw (a, at_other t (entries t frames (row s.threads t)) ((ledger_of L s).stack) u ne) refl
    ]

-- who is done stays the same where the changed thread was and is not done
pub done_same : (L : LoadRows) (s : State) (t : ℕ) (old new : Thread) → row s.threads t ≡ Some old → new.done ≡ old.done
    → ◌≡◌ {A = ℕ → Bool} (λ u. is_done (row (slice_set s.threads (t - 1) new) u)) (λ u. is_done (row s.threads u))
done_same L s t old new of same = fun_ext (λ u. each u)
  where
    within : (0 < t) × (t ≤ length s.threads)
    within = row_within s.threads t old of

    each : (u : ℕ) → is_done (row (slice_set s.threads (t - 1) new) u) ≡ is_done (row s.threads u)
    each u = elim (cases_eq u t) [
      | inl e ↦ rw (e, row_set_same s.threads t new within.0 within.1, of) same
      | inr ne ↦ rw (row_set_other s.threads t u new within.0 ne) refl
    ]

-- a thread that isn't done, by its enabling
pub undone : (s : State) (t : ℕ) (thread : Thread) → row s.threads t ≡ Some thread → is_undone (row s.threads t) ≡ true → thread.done ≡ false
undone s t thread of is = go thread.done refl
  where
    known : not thread.done ≡ true
    known = let e : is_undone (Some thread) ≡ true = rw of at is in e

    go : (d : Bool) → thread.done ≡ d → thread.done ≡ false
    go true e = absurd (let k : not true ≡ true = rw e at known in cc)
    go false e = e

-- the top frame runs where its instance lives, and is dead where it has ended; with no frame the client itself runs
pub runs_frame : (L : LoadRows) (s : State) (t : ℕ) (thread : Thread) (f : StackFrame) → Laid L s → row s.threads t ≡ Some thread → is_undone (row s.threads t) ≡ true
    → top (stack s t) ≡ Some f → is_live s f.instance ≡ true → Runs L (ledger_of L s) t (frame_entry f) (under s t)
runs_frame L s t thread f laid of is on_top lives =
    let w = client_within L s t thread laid of in
    record {
      some = w.0;
      within = w.1;
      undone = rw of (undone s t thread of is);
      stack = entries_top s t f on_top;
      lives = lives;
    }

pub dead_frame : (L : LoadRows) (s : State) (t : ℕ) (thread : Thread) (f : StackFrame) → Laid L s → row s.threads t ≡ Some thread → is_undone (row s.threads t) ≡ true
    → top (stack s t) ≡ Some f → is_live s f.instance ≡ false → IsDead L (ledger_of L s) t (frame_entry f) (under s t)
dead_frame L s t thread f laid of is on_top dead =
    let w = client_within L s t thread laid of in
    record {
      some = w.0;
      within = w.1;
      undone = rw of (undone s t thread of is);
      stack = entries_top s t f on_top;
      dead = dead;
    }

pub runs_client : (L : LoadRows) (s : State) (t : ℕ) (thread : Thread) → Laid L s → row s.threads t ≡ Some thread → is_undone (row s.threads t) ≡ true
    → stack s t ≡ [] → Runs L (ledger_of L s) t (bottom t (Some thread)) []
runs_client L s t thread laid of is none =
    let w = client_within L s t thread laid of in
    record {
      some = w.0;
      within = w.1;
      undone = rw of (undone s t thread of is);
      stack = rw (none, of) refl;
      lives = refl;
    }
