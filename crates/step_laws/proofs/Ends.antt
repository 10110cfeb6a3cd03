-- What an end of an instance frees: its roots that nobody has borrowed, and what hangs in them.
use Rattle.std.proofs.Common.{◌≡◌, ℕ, ◌==◌, Bool, true, false, Some, refl, ap, sym, subst, ◌∙◌, arith, inl, inr}
use Rattle.std.proofs.lemmas.Bool.{cases_Bool, cases_eq, eq-eqb, ne_eqb}
use Rattle.rl_defs.specs.declared.load.LoadRows.{LoadRows}
use Rattle.machine_defs.specs.declared.values.Owner.{Owner}
use Rattle.machine_defs.specs.declared.values.Owner.TheVariants as owner
use Rattle.machine_defs.specs.declared.entry.Entry.{Entry}
use Rattle.machine_defs.specs.declared.entry.Entry.TheVariants as entry
use Rattle.machine_defs.specs.State.{State, Object, Placement, Root, Hung, is_live}
use Rattle.machine_defs.specs.Loans.{object_of, is_doomed_at, is_lost, is_lost_at, is_lost_parent, loans}
use Rattle.machine_defs.specs.Sound.{IsRoot}
use Rattle.machine_defs.specs.Steps.{Row}
use Rattle.machine_laws.specs.Ledger.{Ledger, at}
use Rattle.machine_laws.specs.LedgerOf.{ledger_of, seat_of}
use Rattle.machine_laws.proofs.Objects.{found, found_number}
use Rattle.machine_laws.proofs.Rows.{at_same, at_other}
use Rattle.machine_laws.proofs.Stacks.{loans_same}
use Rattle.step_laws.specs.StepLaws.{DoomsBy, EndFrees, EndsFree, goes_at, goes_with, is_unlent_at, is_unlent_root}
use Rattle.step_laws.proofs.Loans.{follow}
use Rattle.step_laws.proofs.MadeRows.{IsMade, made_row}
use Rattle.step_laws.proofs.Roots.{root_there}

module _ (L : LoadRows) (s made : State) (e : Entry) (m : IsMade L s e made) (i : ℕ) (live : is_live made ≡ at i false (is_live s)) (objects : made.objects ≡ s.objects) (lent : (o : ℕ) → loans made o ≡ loans s o) where
  live_at : (j : ℕ) → is_live made j ≡ at i false (is_live s) j
  live_at j = ap (λ (f : ℕ → Bool). f j) live

  same_object : (o : ℕ) → object_of made o ≡ object_of s o
  same_object o = ap (found o) objects

  -- a root is lost where it is the instance's and nobody has borrowed it
  lost : (o : ℕ) (w : Owner) → (ledger_of L s).seat o ≡ Some (Root w) → is_lost made o w ≡ is_unlent_at s (owner.Instance i) o (Root w)
  lost o (owner.Client c) root = refl
  lost o (owner.Instance j) root = elim (cases_eq j i) [
    | inl is ↦
        let over : is_live made j ≡ false = live_at j ∙ rw is (at_same i false (is_live s)) in
        rw (over, lent o, eq-eqb j i is) refl
    | inr ne ↦ elim (cases_Bool (is_live s j)) [
      | inl lives ↦ (let there : is_live made j ≡ true = live_at j ∙ (at_other i false (is_live s) j ne ∙ lives) in rw (there, ne_eqb j i ne) refl)
      | inr dead ↦
          let over : is_live made j ≡ false = live_at j ∙ (at_other i false (is_live s) j ne ∙ dead) in
          let some = m.owned.rest (owner.Instance j) o root dead in
          let same = loans_same L s o m.laid in
          let kept : (loans s o == 0) ≡ false = ne_eqb (loans s o) 0 (λ none. omega (arith, some, same, none)) in
          rw (over, lent o, kept, ne_eqb j i ne) refl
    ]
  ]

  by_place : (x : Object) (p : Placement) → object_of s x.number ≡ Some x → x.placement ≡ p → is_doomed_at made x.number p ≡ goes_at s (owner.Instance i) x.number p
  by_place x (Root w) here root = lost x.number w (ap seat_of here ∙ ap Some root)
  by_place x (Hung p k) here hung =
      let root = m.owned.hung x.number p k (ap seat_of here ∙ ap Some hung) in
      let parent : IsRoot s p root.0 = root_there s p root.0 root.1 in
      let y : Object = parent.0 in
      let number : y.number ≡ p = found_number p s.objects y parent.1 in
      let there : object_of made p ≡ Some y = same_object p ∙ parent.1 in
      let place : is_lost_at made y.number y.placement ≡ is_lost made y.number root.0 = ap (is_lost_at made y.number) parent.2 in
      let by_number : is_lost made y.number root.0 ≡ is_unlent_at s (owner.Instance i) y.number (Root root.0) = lost y.number root.0 (subst (λ n. (ledger_of L s).seat n ≡ Some (Root root.0)) (sym number) root.1) in
      let back : is_unlent_at s (owner.Instance i) y.number (Root root.0) ≡ is_unlent_root s (owner.Instance i) (Some y) = ap (is_unlent_at s (owner.Instance i) y.number) (sym parent.2) in
      ap (is_lost_parent made) there ∙ (place ∙ (by_number ∙ (back ∙ ap (is_unlent_root s (owner.Instance i)) (sym parent.1))))

  pub end_dooms : DoomsBy made (goes_with s (owner.Instance i))
  end_dooms x here = by_place x x.placement (sym (same_object x.number) ∙ here) refl

pub end_frees : (L : LoadRows) (s made : State) (e : Entry) → IsMade L s e made → Row L s e made → EndFrees s e made
end_frees L s made (entry.Trap t i cause) m r = end_dooms L s made (entry.Trap t i cause) m i (ap (λ (y : Ledger). y.live) m.row.4) (ap (λ (y : State). y.objects) r.becomes) (follow L s made (entry.Trap t i cause) m)
end_frees L s made (entry.Kill t i) m r = end_dooms L s made (entry.Kill t i) m i (ap (λ (y : Ledger). y.live) m.row.4) (ap (λ (y : State). y.objects) r.becomes) (follow L s made (entry.Kill t i) m)
end_frees L s made other m r = tt

pub ends_free : EndsFree
ends_free L H s made e valid run enabled row = end_frees L s made e (made_row L H s made e valid run enabled row) row
