-- Each row keeps what is owned and lent sound, but for what then is doomed.
use Rattle.std.proofs.Common.{◌≡◌, ℕ, zero, suc, ◌<◌, ◌≤◌, true, cond, List, [], ◌∷◌, Option, Some, None, refl, ap, sym, ◌∙◌, subst, arith, inl, inr, slice_get, length}
use Rattle.std.proofs.lemmas.Bool.{cases_eq, ne_eqb}
use Rattle.machine_defs.specs.declared.values.Owner.{Owner}
use Rattle.machine_defs.specs.declared.values.Owner.TheVariants as owner
use Rattle.machine_defs.specs.declared.entry.Entry.{Entry}
use Rattle.machine_defs.specs.declared.entry.Entry.TheVariants as entry
use Rattle.rl_defs.specs.declared.load.LoadRows.{LoadRows}
use Rattle.machine_defs.specs.State.{Placement, Root, lives}
use Rattle.machine_defs.specs.Arguments.{moved_of}
use Rattle.machine_defs.specs.Arguments.{objects_in}
use Rattle.machine_laws.specs.Ledger.{sum_to}
use Rattle.machine_laws.specs.Ledger.{LedgerFrame, Ledger, at, alive}
use Rattle.machine_laws.specs.LedgerRows.{Exchanged, Row}
use Rattle.machine_laws.specs.LedgerSound.{in_slots, own_in, held_in, is_of, Owned, Grounded, Placed}
use Rattle.machine_laws.proofs.Owners.{is_of_root}
use Rattle.machine_laws.proofs.Sweeping.{BeforeSweepIn, BeforeSweep, covered_weaker}
use Rattle.machine_laws.proofs.OwnRows.{unswept, ending, new_row, drop_row, unhang_row, even_row, refuse_row, hang_row}
use Rattle.machine_laws.proofs.PassRows.{slot_row, unwound_row, again_row, ret_row, call_row}
use Rattle.machine_laws.proofs.Rows.{at_same, at_other}

-- no frame is of an instance that was not opened
pub none_unopened : (L : LoadRows) (loads : ℕ → ℕ) (ni nc t i o : ℕ) (fs : List LedgerFrame) → Grounded L loads ni nc t fs → ni ≤ i → own_in (owner.Instance i) o fs ≡ 0
none_unopened L loads ni nc t i o [] g le = refl
none_unopened L loads ni nc t i o (f ∷ []) g le = let e = g.0 in rw e refl
none_unopened L loads ni nc t i o (f ∷ h ∷ fs) g le =
    let e = g.0.1 in
    let l = g.0.3 in
    let r = none_unopened L loads ni nc t i o (h ∷ fs) g.4 le in
    rw (e, ne_eqb i g.0.0 (λ is. omega arith)) (omega arith)

pub sum_none : (f : ℕ → ℕ) (n : ℕ) → ((t : ℕ) → 0 < t → t ≤ n → f t ≡ 0) → sum_to f n ≡ 0
sum_none f zero none = refl
sum_none f (suc n) none = let a = none (suc n) (omega arith) (omega arith) in let r = sum_none f n (λ t pos le. none t pos (omega arith)) in omega arith

pub none_is_of : (w : Owner) (x : Option Placement) → (x ≡ Some (Root w) → ⊥) → ◌≡◌ {A = ℕ} (cond (is_of w x) 1 0) 0
none_is_of w x ne = elim (cases_eq (cond (is_of w x) 1 0) 0) [ inl e ↦ e | inr more ↦ absurd (ne (is_of_root w x (omega arith))) ]

-- slots that hold nothing
pub slots_empty : (o : ℕ) (slots : List (Option ℕ)) → ((k : ℕ) → slice_get slots k ≡ Some (Some o) → ⊥) → in_slots o slots ≡ 0
slots_empty o [] empty = refl
slots_empty o (None ∷ slots) empty = slots_empty o slots (λ k. empty (suc k))
slots_empty o (Some q ∷ slots) empty = rw (ne_eqb q o (λ is. empty 0 (ap (λ x. Some (Some x)) is)), slots_empty o slots (λ k. empty (suc k))) refl

module _ (L : LoadRows) (s : Ledger) (own : Owned L s) (p : Placed L s) where
  pub reload_owned : (i : ℕ) (slots : List (Option ℕ)) → i ≡ s.next_instance → ((o : ℕ) → in_slots o slots ≡ 0) → BeforeSweepIn (length L.clients) (at i true s.live) s.stack s.seat (at i slots s.slots) s.next_object
  reload_owned i slots e empty = record {
    once = λ w o. each w o;
    hung = (unswept L s own).hung;
    cell = own.cell;
    lent = own.lent;
    stacks = own.stacks;
    within = own.within;
    covered = λ u. covered_weaker s.live (at i true s.live) s.seat s.seat (s.stack u) (λ o w pos is lives. (is, was w o is lives)) (own.covered u);
    fresh = own.fresh;
  }
    where
      was : (w : Owner) (o : ℕ) → s.seat o ≡ Some (Root w) → alive (at i true s.live) w ≡ true → alive s.live w ≡ true
      was (owner.Client u) o is lives = refl
      was (owner.Instance j) o is lives = let lt = (p.owners o j is).1 in sym (at_other i true s.live j (λ same. omega arith)) ∙ lives

      each : (w : Owner) (o : ℕ) → alive (at i true s.live) w ≡ true → held_in (length L.clients) s.stack (at i slots s.slots) w o ≡ cond (is_of w (s.seat o)) 1 0
      each (owner.Client u) o lives = own.once (owner.Client u) o refl
      each (owner.Instance j) o lives = elim (cases_eq j i) [
        | inl is ↦
            let none = none_is_of (owner.Instance j) (s.seat o) (λ there. let lt = (p.owners o j there).1 in omega arith) in
            let frames = sum_none (λ k. own_in (owner.Instance j) o (s.stack k)) (length L.clients) (λ k pos le. none_unopened L s.loads s.next_instance s.next_call k j o (s.stack k) (p.grounded k pos le) (omega arith)) in
            let none_in : in_slots o (at i slots s.slots j) ≡ 0 = rw (is, at_same i slots s.slots) (empty o) in
            omega arith
        | inr ne ↦ rw (at_other i slots s.slots j ne) (own.once (owner.Instance j) o (rw (at_other i true s.live j ne) at lives))
      ]

  pub owned_row : (e : Entry) (z : Ledger) → Row L s e z → BeforeSweep L z
  owned_row (entry.Call t n x i m args) z r = subst (BeforeSweep L) (sym r.4) (call_row L s own t n x i m args r.0 r.1 r.2 r.3)
  owned_row (entry.Refuse t n why x m args) z r = subst (BeforeSweep L) (sym r.7) (refuse_row L s own t r.0 r.1 r.3 r.2 (moved_of args) r.6.moved)
  owned_row (entry.Ret t n results) z r = subst (BeforeSweep L) (sym r.8) (ret_row L s own t r.0 r.1 r.2 r.4 (objects_in results) r.3 r.6 r.7)
  owned_row (entry.Unwound t n) z r = subst (BeforeSweep L) (sym r.8) (unwound_row L s own t r.0 r.1 r.2 r.4 r.3 r.7)
  owned_row (entry.Reload t x i left) z r = subst (BeforeSweep L) (sym r.9) (reload_owned i r.7 r.6 (λ o. slots_empty o r.7 (λ k. r.8 k o)))
  owned_row (entry.Again t n x i) z r = subst (BeforeSweep L) (sym r.8) (again_row L s own t i r.0 r.1 r.2)
  owned_row (entry.Trap t i cause) z r = subst (BeforeSweep L) (sym r.4) (ending L s i own)
  owned_row (entry.Kill t i) z r = subst (BeforeSweep L) (sym r.4) (ending L s i own)
  owned_row (entry.New t w o ty values) z r = subst (BeforeSweep L) (sym r.7) (rw (r.4, r.5) (new_row L s own t r.0 r.1 r.3 r.2 (subst (λ q. Exchanged r.0.own [] (q ∷ []) r.2) r.5 r.6)))
  owned_row (entry.Drop t o) z r = subst (BeforeSweep L) (sym r.5) (drop_row L s own t r.0 r.1 r.3 r.2 o r.4)
  owned_row (entry.Set t o place values) z r = subst (BeforeSweep L) (sym r.6) (even_row L s own t r.0 r.1 r.3 r.2 r.5)
  owned_row (entry.Wput t i place value) z r = subst (BeforeSweep L) (sym r.6) (even_row L s own t r.0 r.1 r.3 r.2 r.5)
  owned_row (entry.Take t i slot o) z r = subst (BeforeSweep L) (sym r.9) (slot_row L s own t r.1 r.2 r.4 r.3 i r.5 r.0 (Some o) None r.7 (λ q. let a = r.8 q in omega arith))
  owned_row (entry.Put t i slot o) z r = subst (BeforeSweep L) (sym r.9) (slot_row L s own t r.1 r.2 r.4 r.3 i r.5 r.0 None (Some o) r.7 (λ q. let a = r.8 q in omega arith))
  owned_row (entry.DevGet t o b) z r = subst (BeforeSweep L) (sym r.6) (even_row L s own t r.0 r.1 r.3 r.2 r.5)
  owned_row (entry.DevPut t b o) z r = subst (BeforeSweep L) (sym r.6) (even_row L s own t r.0 r.1 r.3 r.2 r.5)
  owned_row (entry.Hang t o k v) z r = subst (BeforeSweep L) (sym r.8) (hang_row L s own t r.0 r.1 r.3 r.2 o k v r.4 r.5 r.6 r.7)
  owned_row (entry.Unhang t o k v) z r = subst (BeforeSweep L) (sym r.7) (unhang_row L s own t r.0 r.1 r.3 r.2 o k v r.5 r.6)
  owned_row (entry.Show t o values) z r = subst (BeforeSweep L) (sym r.4) (unswept L s own)
  owned_row (entry.Skip t number) z r = subst (BeforeSweep L) (sym r.2) (unswept L s own)
  owned_row (entry.Done t) z r = subst (BeforeSweep L) (sym r.2) (unswept L s own)
  owned_row (entry.Free o) z r = absurd r
