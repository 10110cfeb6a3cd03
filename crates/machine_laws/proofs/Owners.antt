-- Owners, and what is lent of what a running frame has.
use Rattle.std.proofs.Common.{◌≡◌, ℕ, ◌+◌, ◌<◌, ◌≤◌, Bool, true, cond, List, [], ◌∷◌, Option, Some, None, refl, ap, sym, arith, inl, inr, length}
use Rattle.std.proofs.lemmas.Bool.{cases_eq, cases_Bool, eqb-true, eq-eqb}
use Rattle.machine_defs.specs.declared.values.Owner.{Owner}
use Rattle.machine_defs.specs.declared.values.Owner.TheVariants as owner
use Rattle.rl_defs.specs.declared.load.LoadRows.{LoadRows}
use Rattle.machine_defs.specs.State.{Placement, Root, Hung, lives}
use Rattle.machine_defs.specs.Loans.{count}
use Rattle.machine_defs.specs.Report.{same_owner}
use Rattle.machine_laws.specs.Ledger.{LedgerFrame, Ledger, alive, lent_in, loans}
use Rattle.machine_laws.specs.LedgerRows.{Runs}
use Rattle.machine_laws.specs.LedgerSound.{own_in, held, is_of, Covered, Owned}
use Rattle.machine_laws.proofs.Sums.{sum_least, sum_two, sum_some}

pub same_is : (w v : Owner) → same_owner w v ≡ true → w ≡ v
same_is (owner.Client a) (owner.Client b) e = ap owner.Client (eqb-true a b e)
same_is (owner.Instance a) (owner.Instance b) e = ap owner.Instance (eqb-true a b e)
same_is (owner.Client a) (owner.Instance b) e = absurd cc
same_is (owner.Instance a) (owner.Client b) e = absurd cc

pub same_self : (w : Owner) → same_owner w w ≡ true
same_self (owner.Client a) = eq-eqb a a refl
same_self (owner.Instance a) = eq-eqb a a refl

-- a holder of one object is its owner
pub is_of_root : (w : Owner) (o : Option Placement) → 0 < cond (is_of w o) 1 0 → o ≡ Some (Root w)
is_of_root w None pos = absurd (omega arith)
is_of_root w (Some (Root v)) pos = elim (cases_Bool (same_owner w v)) [
  | inl e ↦ ap (λ x. Some (Root x)) (sym (same_is w v e))
  | inr e ↦ absurd (let no : ◌≡◌ {A = ℕ} (cond (same_owner w v) 1 0) 0 = rw e refl in omega arith)
]
is_of_root w (Some (Hung p k)) pos = absurd (omega arith)

pub is_of_le : (w : Owner) (o : Option Placement) → cond (is_of w o) 1 0 ≤ 1
is_of_le w o = elim (cases_Bool (is_of w o)) [ inl e ↦ rw e (omega arith) | inr e ↦ rw e (omega arith) ]

-- the frames below the top
abbrev pub below : List LedgerFrame → List LedgerFrame
below [] = []
below (f ∷ fs) = fs

pub own_below : (w : Owner) (o : ℕ) (fs : List LedgerFrame) → own_in w o (below fs) ≤ own_in w o fs
own_below w o [] = omega arith
own_below w o (f ∷ fs) = omega arith

-- what is lent of a live owner is held below the top
pub covered_below : (live : ℕ → Bool) (seat : ℕ → Option Placement) (o : ℕ) (w : Owner) (fs : List LedgerFrame) → Covered live seat fs
    → 0 < lent_in o fs → seat o ≡ Some (Root w) → alive live w ≡ true → 0 < own_in w o (below fs)
covered_below live seat o w [] c pos is lives = absurd (omega arith)
covered_below live seat o w (f ∷ fs) c pos is lives = elim (cases_eq (count o f.lent) 0) [
  | inl none ↦
      let deeper = covered_below live seat o w fs c.1 (omega arith) is lives in
      let le = own_below w o fs in
      omega arith
  | inr some ↦ c.0 o w (omega arith) is lives
]

-- the top frame's own objects are those of its party, and are not lent
module _ (L : LoadRows) (s : Ledger) (own : Owned L s) (t : ℕ) (f : LedgerFrame) (fs : List LedgerFrame) (runs : Runs L s t f fs) (o : ℕ) (has_it : 0 < count o f.own) where
  pub top_own : count o f.own ≤ own_in f.party o (s.stack t)
  top_own = rw runs.stack (let e : ◌≡◌ {A = ℕ} (cond (same_owner f.party f.party) (count o f.own) 0) (count o f.own) = rw (same_self f.party) refl in omega arith)

  pub top_held : own_in f.party o (s.stack t) ≤ held L s f.party o
  top_held =
      let le = sum_least (λ k. own_in f.party o (s.stack k)) (length L.clients) t runs.some runs.within in
      omega arith

  pub top_root : s.seat o ≡ Some (Root f.party)
  top_root =
      let one = own.once f.party o runs.lives in
      let a = top_own in
      let b = top_held in
      is_of_root f.party (s.seat o) (omega arith)

  pub unlent : loans L s o ≡ 0
  unlent = elim (cases_eq (loans L s o) 0) [
    | inl e ↦ e
    | inr ne ↦ absurd (
        let one = own.once f.party o runs.lives in
        let small = is_of_le f.party (s.seat o) in
        let a = top_own in
        let r = sum_some (λ k. lent_in o (s.stack k)) (length L.clients) (omega arith) in
        let u : ℕ = r.0 in
        let low = covered_below s.live s.seat o f.party (s.stack u) (own.covered u) r.3 top_root runs.lives in
        let low' = own_below f.party o (s.stack u) in
        elim (cases_eq t u) as (λ _. ⊥) [
          | inl e ↦
              let here : 0 < own_in f.party o fs = let h : 0 < own_in f.party o (below (s.stack t)) = rw e low in rw runs.stack at h in
              let whole : own_in f.party o (s.stack t) ≡ count o f.own + own_in f.party o fs = rw (runs.stack, same_self f.party) refl in
              let b = top_held in
              omega arith
          | inr ne' ↦
              let two = sum_two (λ k. own_in f.party o (s.stack k)) (length L.clients) t u runs.some runs.within r.1 r.2 ne' in
              omega arith
        ])
  ]
