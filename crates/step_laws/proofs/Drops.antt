-- What a drop and a refusal free: what hangs in what they drop.
use Rattle.std.proofs.Common.{◌≡◌, ℕ, true, false, List, [], ◌∷◌, Option, Some, None, refl, ap, sym, subst, ◌∙◌, arith, inl, inr}
use Rattle.std.proofs.lemmas.Bool.{cases_Bool}
use Rattle.rl_defs.specs.declared.load.LoadRows.{LoadRows}
use Rattle.machine_defs.specs.declared.values.Owner.{Owner}
use Rattle.machine_defs.specs.declared.entry.Entry.{Entry}
use Rattle.machine_defs.specs.declared.entry.Entry.TheVariants as entry
use Rattle.machine_defs.specs.State.{State, Placement, Root, Hung}
use Rattle.machine_defs.specs.Arguments.{has, moved_of}
use Rattle.machine_laws.specs.Ledger.{Ledger, alive, loans, is_lost, is_doomed_at}
use Rattle.machine_laws.specs.LedgerOf.{ledger_of, seat_of}
use Rattle.machine_laws.specs.LedgerRows.{remove}
use Rattle.machine_laws.specs.LedgerSound.{Owned}
use Rattle.machine_laws.proofs.Seats.{remove_one}
use Rattle.machine_laws.proofs.Sweeping.{kept_some}
use Rattle.step_laws.specs.StepLaws.{DoomsBy, DropFrees, DropsFree, hangs_among}
use Rattle.step_laws.proofs.LedgerLoans.{loans_row}
use Rattle.step_laws.proofs.LedgerQuiet.{kept_root}
use Rattle.step_laws.proofs.MadeRows.{IsMade, made_row}
use Rattle.step_laws.proofs.Roots.{doomed_by}

-- objects leave the ledger, and no owner ends and no loan falls
module _ (L : LoadRows) (s : Ledger) (own : Owned L s) (z : Ledger) (os : List ℕ) (live : z.live ≡ s.live) (seat : z.seat ≡ remove os s.seat) (lent : (o : ℕ) → loans L z o ≡ loans L s o) where
  stays : (o : ℕ) (w : Owner) → s.seat o ≡ Some (Root w) → is_lost z.live (loans L z o) w ≡ false
  stays o w is = kept_root L s own z.live (loans L z o) o w (λ a. subst (λ l. alive l w ≡ true) (sym live) a) (let e = lent o in omega (arith, e)) (inl is)

  was : (o : ℕ) (p : Placement) → z.seat o ≡ Some p → (has os o ≡ false) × (s.seat o ≡ Some p)
  was o p is = kept_some (has os o) (s.seat o) p (sym (ap (λ (f : ℕ → Option Placement). f o) seat) ∙ is)

  pub removed : (o : ℕ) (p : Placement) → z.seat o ≡ Some p → is_doomed_at z.live (loans L z) z.seat o (Some p) ≡ hangs_among os p
  removed o (Root w) is = stays o w (was o (Root w) is).1
  removed o (Hung p k) is =
      let root = own.hung o p k (was o (Hung p k) is).1 in
      let above : z.seat p ≡ remove os s.seat p = ap (λ (f : ℕ → Option Placement). f p) seat in
      elim (cases_Bool (has os p)) [
        | inl gone ↦ (let none : z.seat p ≡ None = above ∙ rw gone refl in rw (gone, none) refl)
        | inr there ↦ (let still : z.seat p ≡ Some (Root root.0) = above ∙ rw there root.1 in rw (there, still) (stays p root.0 root.1))
      ]

module _ (L : LoadRows) (s made : State) (e : Entry) (m : IsMade L s e made) where
  by_seat : (os : List ℕ) → (ledger_of L made).live ≡ (ledger_of L s).live → (ledger_of L made).seat ≡ remove os (ledger_of L s).seat → ((o : ℕ) → loans L (ledger_of L made) o ≡ loans L (ledger_of L s) o)
      → DoomsBy made (λ x. hangs_among os x.placement)
  by_seat os live seat lent x here = doomed_by L made x m.behind here ∙ removed L (ledger_of L s) m.owned (ledger_of L made) os live seat lent x.number x.placement (ap seat_of here)

pub drop_frees : (L : LoadRows) (s made : State) (e : Entry) → IsMade L s e made → DropFrees s e made
drop_frees L s made (entry.Drop t o) m =
    by_seat L s made (entry.Drop t o) m (o ∷ []) (ap (λ (y : Ledger). y.live) m.row.5) (ap (λ (y : Ledger). y.seat) m.row.5 ∙ sym (remove_one o (ledger_of L s).seat))
    (λ q. loans_row L (ledger_of L s) q (entry.Drop t o) (ledger_of L made) m.row)
drop_frees L s made (entry.Refuse t c why x n args) m =
    by_seat L s made (entry.Refuse t c why x n args) m (moved_of args) (ap (λ (y : Ledger). y.live) m.row.7) (ap (λ (y : Ledger). y.seat) m.row.7)
    (λ q. loans_row L (ledger_of L s) q (entry.Refuse t c why x n args) (ledger_of L made) m.row)
drop_frees L s made other m = tt

pub drops_free : DropsFree
drops_free L H s made e valid run enabled row = drop_frees L s made e (made_row L H s made e valid run enabled row)
