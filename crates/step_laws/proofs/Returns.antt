-- What the end of a frame frees: roots of ended owners, of those that were lent to it or are results of its call.
use Rattle.std.proofs.Common.{◌≡◌, ℕ, ◌+◌, true, false, List, [], ◌++◌, Option, Some, refl, ap, sym, subst, ◌∙◌, arith, inl}
use Rattle.rl_defs.specs.declared.load.LoadRows.{LoadRows}
use Rattle.machine_defs.specs.declared.values.Owner.{Owner}
use Rattle.machine_defs.specs.declared.entry.Entry.{Entry}
use Rattle.machine_defs.specs.declared.entry.Entry.TheVariants as entry
use Rattle.machine_defs.specs.State.{State, StackFrame, Object, Placement, Root, Hung, stack, top}
use Rattle.machine_defs.specs.Arguments.{has, objects_in}
use Rattle.machine_defs.specs.Loans.{count, object_of, is_doomed, is_doomed_at, is_lost_parent, is_lost_at}
use Rattle.machine_laws.specs.Ledger.{Ledger, alive, is_lost, is_doomed_at as ledger_doomed_at, loans as ledger_loans}
use Rattle.machine_laws.specs.LedgerOf.{ledger_of, seat_of, frame_entry}
use Rattle.machine_laws.specs.LedgerRows.{give}
use Rattle.machine_laws.proofs.Counts.{none_counted}
use Rattle.machine_laws.proofs.PassRows.{give_flat}
use Rattle.machine_laws.proofs.Tops.{under, entries_top}
use Rattle.step_laws.specs.StepLaws.{FreesAmong, GoesWithParent, ReturnFrees, ReturnsFree}
use Rattle.step_laws.proofs.LedgerLoans.{loans_row, LoansFall}
use Rattle.step_laws.proofs.LedgerQuiet.{kept_root, given_root}
use Rattle.step_laws.proofs.MadeRows.{IsMade, made_row}
use Rattle.step_laws.proofs.Roots.{root_there, doomed_by, in_neither}

module _ (L : LoadRows) (s made : State) (e : Entry) (m : IsMade L s e made) where
  -- what hangs in a root goes with it
  with_parent : (x : Object) (p k : ℕ) (w : Owner) → x.placement ≡ Hung p k → (ledger_of L made).seat p ≡ Some (Root w) → GoesWithParent made x p
  with_parent x p k w hung seat =
      let root = root_there made p w seat in
      let y : Object = root.0 in
      let above : is_doomed made x ≡ is_lost_parent made (object_of made p) = ap (λ (v : Placement). is_doomed_at made x.number v) hung in
      let there : is_lost_parent made (object_of made p) ≡ is_lost_at made y.number y.placement = ap (is_lost_parent made) root.1 in
      let lost : is_lost_at made y.number y.placement ≡ is_lost_at made y.number (Root w) = ap (is_lost_at made y.number) root.2 in
      let doomed : is_doomed made y ≡ is_doomed_at made y.number (Root w) = ap (is_doomed_at made y.number) root.2 in
      record { owner = w; root = root; same = above ∙ (there ∙ (lost ∙ sym doomed)) }

  -- a frame ends, and objects pass to the owner below it
  module _ (t : ℕ) (f : StackFrame) (on_top : top (stack s t) ≡ Some f) (given : List ℕ) (w : Owner) (live : (ledger_of L made).live ≡ (ledger_of L s).live)
      (seat : (ledger_of L made).seat ≡ give given w (ledger_of L s).seat) (fall : (o : ℕ) → LoansFall L (ledger_of L s) t (ledger_of L made) o) where
    seat_at : (o : ℕ) → (ledger_of L made).seat o ≡ give given w (ledger_of L s).seat o
    seat_at o = ap (λ (g : ℕ → Option Placement). g o) seat

    lent : (o : ℕ) → ledger_loans L (ledger_of L made) o + count o f.lent ≡ ledger_loans L (ledger_of L s) o
    lent o = fall o (frame_entry f) (under s t) (entries_top s t f on_top)

    neither : (o : ℕ) (v : Owner) → (ledger_of L made).seat o ≡ Some (Root v) → has f.lent o ≡ false → has given o ≡ false → is_lost (ledger_of L made).live (ledger_loans L (ledger_of L made) o) v ≡ false
    neither o v root unlent ungiven =
        let none = none_counted f.lent o unlent in
        let same = lent o in
        let before : (ledger_of L s).seat o ≡ Some (Root v) = rw ungiven at (sym (seat_at o) ∙ root) in
        kept_root L (ledger_of L s) m.owned (ledger_of L made).live (ledger_loans L (ledger_of L made) o) o v (λ a. subst (λ l. alive l v ≡ true) (sym live) a) (omega (arith, same, none)) (inl before)

    pub among : (os : List ℕ) → ((o : ℕ) → has os o ≡ false → (has f.lent o ≡ false) × (has given o ≡ false)) → FreesAmong made os
    among os out = record {
      roots = λ x v here root. ap (λ (p : Placement). is_doomed_at made x.number p) root;
      others = λ x v here root outside. (
          let r = out x.number outside in
          let is : (ledger_of L made).seat x.number ≡ Some (Root v) = ap seat_of here ∙ ap Some root in
          doomed_by L made x m.behind here ∙ (ap (λ (p : Placement). ledger_doomed_at (ledger_of L made).live (ledger_loans L (ledger_of L made)) (ledger_of L made).seat x.number (Some p)) root ∙ neither x.number v is r.0 r.1));
      hung = λ x p k here hangs. (
          let is : (ledger_of L made).seat x.number ≡ Some (Hung p k) = ap seat_of here ∙ ap Some hangs in
          let before = give_flat given w (ledger_of L s).seat x.number p k (sym (seat_at x.number) ∙ is) in
          let root = m.owned.hung x.number p k before in
          let behind = given_root given w (ledger_of L s).seat p root.0 root.1 in
          with_parent x p k behind.0 hangs (seat_at p ∙ behind.1));
    }

pub return_frees : (L : LoadRows) (s made : State) (e : Entry) → IsMade L s e made → ReturnFrees s e made
return_frees L s made (entry.Ret t c results) m = λ f on_top.
    among L s made (entry.Ret t c results) m t f on_top (objects_in results) m.row.1.party (ap (λ (y : Ledger). y.live) m.row.8) (ap (λ (y : Ledger). y.seat) m.row.8)
    (λ o. loans_row L (ledger_of L s) o (entry.Ret t c results) (ledger_of L made) m.row) (f.lent ++ objects_in results) (λ o out. in_neither f.lent (objects_in results) o out)
return_frees L s made (entry.Unwound t c) m = λ f on_top.
    among L s made (entry.Unwound t c) m t f on_top [] m.row.1.party (ap (λ (y : Ledger). y.live) m.row.8) (ap (λ (y : Ledger). y.seat) m.row.8)
    (λ o. loans_row L (ledger_of L s) o (entry.Unwound t c) (ledger_of L made) m.row) f.lent (λ o out. (out, refl))
return_frees L s made other m = tt

pub returns_free : ReturnsFree
returns_free L H s made e valid run enabled row = return_frees L s made e (made_row L H s made e valid run enabled row)
