-- The sweep of a state is the sweep of its ledger, and frees the same objects.
use Rattle.std.proofs.Common.{◌≡◌, ℕ, ◌-◌, cond, not, Option, Some, None, refl, ap, sym, subst, ◌∙◌, arith, inl, inr}
use mathlib.Core.Path.{fun_ext}
use Rattle.std.proofs.lemmas.Bool.{cases_Bool}
use Rattle.rl_defs.specs.declared.load.LoadRows.{LoadRows}
use Rattle.machine_defs.specs.State.{State, Object, Placement}
use Rattle.machine_defs.specs.Loans.{object_of, is_doomed as is_doomed_object, sweep as sweep_state, freed as freed_of}
use Rattle.machine_laws.specs.Ledger.{is_doomed, sweep, freed}
use Rattle.machine_laws.specs.LedgerOf.{seat_of, ledger_of}
use Rattle.machine_laws.specs.Shape.{Laid}
use Rattle.machine_laws.proofs.Objects.{found_filter, found_number, if_passes, rises_filter}
use Rattle.machine_laws.proofs.FreedNumbers.{passing_all, numbers_passing}
use Rattle.machine_laws.proofs.Stacks.{doomed_same}

pub laid_sweep : (L : LoadRows) (s : State) → Laid L s → Laid L (sweep_state s)
laid_sweep L s laid = record {
  stacks = laid.stacks;
  threads = laid.threads;
  shadows = laid.shadows;
  objects = rises_filter (λ x. not (is_doomed_object s x)) 0 s.next_object s.objects laid.objects;
  started = laid.started;
}

pub seat_swept : (L : LoadRows) (s : State) → Laid L s → (o : ℕ) → seat_of (object_of (sweep_state s) o) ≡ (sweep L (ledger_of L s)).seat o
seat_swept L s laid o = rw (found_filter (λ x. not (is_doomed_object s x)) 0 s.next_object o s.objects laid.objects) (go (object_of s o) refl)
  where
    go : (here : Option Object) → object_of s o ≡ here → seat_of (if_passes (λ x. not (is_doomed_object s x)) here) ≡ cond (is_doomed L (ledger_of L s) o) None (seat_of here)
    go None e = rw e refl
    go (Some x) e =
        let same = found_number o s.objects x e in
        let d = doomed_same L s x laid (subst (λ n. object_of s n ≡ Some x) (sym same) e) in
        let d' = subst (λ n. is_doomed L (ledger_of L s) n ≡ is_doomed_object s x) same d in
        elim (cases_Bool (is_doomed_object s x)) [
          | inl yes' ↦ rw (yes', d' ∙ yes') refl
          | inr no' ↦ rw (no', d' ∙ no') refl
        ]

pub sweep_same : (L : LoadRows) (s : State) → Laid L s → ledger_of L (sweep_state s) ≡ sweep L (ledger_of L s)
sweep_same L s laid =
    let seats : ◌≡◌ {A = ℕ → Option Placement} (λ o. seat_of (object_of (sweep_state s) o)) ((sweep L (ledger_of L s)).seat) = fun_ext (seat_swept L s laid) in
    ap (λ (seat : ℕ → Option Placement). record (ledger_of L s) { seat = seat }) seats

pub freed_same : (L : LoadRows) (s : State) → Laid L s → freed_of s ≡ freed L (ledger_of L s)
freed_same L s laid =
    let rises = laid.objects in
    let start = laid.started in
    let all' = numbers_passing (is_doomed_object s) (is_doomed L (ledger_of L s)) 0 (s.next_object - 1) s.next_object s.objects rises (omega arith)
    (λ x here. sym (doomed_same L s x laid here))
    (λ o lt none. rw none refl) in
    all' ∙ sym (passing_all (is_doomed L (ledger_of L s)) (s.next_object - 1))
