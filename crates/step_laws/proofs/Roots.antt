-- Roots and what hangs, by the seats of the ledger; and numbers that stand in neither of two lists.
use Rattle.std.proofs.Common.{◌≡◌, ℕ, ◌==◌, true, false, List, [], ◌∷◌, ◌++◌, Some, refl, ap, sym, ◌∙◌, inl, inr}
use Rattle.std.proofs.lemmas.Bool.{cases_Bool}
use Rattle.rl_defs.specs.declared.load.LoadRows.{LoadRows}
use Rattle.machine_defs.specs.declared.values.Owner.{Owner}
use Rattle.machine_defs.specs.State.{State, Object, Root}
use Rattle.machine_defs.specs.Arguments.{has}
use Rattle.machine_defs.specs.Loans.{object_of, is_doomed as is_doomed_object}
use Rattle.machine_defs.specs.Sound.{IsRoot}
use Rattle.machine_laws.specs.Ledger.{is_doomed_at, loans}
use Rattle.machine_laws.specs.LedgerOf.{ledger_of, seat_of}
use Rattle.machine_laws.specs.Shape.{Laid}
use Rattle.machine_laws.proofs.Seats.{seats}
use Rattle.machine_laws.proofs.Present.{seated}
use Rattle.machine_laws.proofs.Stacks.{doomed_same}

pub root_there : (s : State) (p : ℕ) (w : Owner) → seats s p ≡ Some (Root w) → IsRoot s p w
root_there s p w seat =
    let x = seated s p (Root w) seat in
    let e : Some x.0.placement ≡ Some (Root w) = sym (ap seat_of x.1) ∙ seat in
    let place : x.0.placement ≡ Root w = cc in
    (x.0, x.1, place)

-- an object that is there is doomed where its place makes it so in the ledger
pub doomed_by : (L : LoadRows) (s : State) (x : Object) → Laid L s → object_of s x.number ≡ Some x
    → is_doomed_object s x ≡ is_doomed_at (ledger_of L s).live (loans L (ledger_of L s)) (ledger_of L s).seat x.number (Some x.placement)
doomed_by L s x laid here =
    sym (doomed_same L s x laid here) ∙ ap (is_doomed_at (ledger_of L s).live (loans L (ledger_of L s)) (ledger_of L s).seat x.number) (ap seat_of here)

pub in_neither : (xs ys : List ℕ) (o : ℕ) → has (xs ++ ys) o ≡ false → (has xs o ≡ false) × (has ys o ≡ false)
in_neither [] ys o out = (refl, out)
in_neither (x ∷ xs) ys o out = elim (cases_Bool (x == o)) [
  | inl is ↦ absurd (let e : true ≡ false = rw is at out in cc)
  | inr is ↦ let r = in_neither xs ys o (rw is at out) in (rw is r.0, r.1)
]
