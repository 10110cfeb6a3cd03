-- How often objects stand in lists.
use Rattle.std.proofs.Common.{◌≡◌, ℕ, ◌<◌, ◌==◌, true, false, cond, List, [], ◌∷◌, refl, sym, arith, inl, inr}
use Rattle.std.proofs.lemmas.Bool.{cases_Bool, eq-eqb, ne_eqb}
use Rattle.machine_defs.specs.Loans.{count}
use Rattle.machine_defs.specs.Arguments.{has}
use Rattle.machine_laws.specs.LedgerRows.{Exchanged}

pub one_here : (o : ℕ) → count o (o ∷ []) ≡ 1
one_here o = rw (eq-eqb o o refl) refl

pub none_there : (o q : ℕ) → ((q ≡ o) → ⊥) → count q (o ∷ []) ≡ 0
none_there o q ne = rw (ne_eqb o q (λ e. ne (sym e))) refl

pub has_counted : (os : List ℕ) (q : ℕ) → has os q ≡ true → 0 < count q os
has_counted [] q e = absurd cc
has_counted (o ∷ os) q e = elim (cases_Bool (o == q)) [
  | inl is ↦ rw is (omega arith)
  | inr is ↦ let e' : has os q ≡ true = rw is at e in let r = has_counted os q e' in omega arith
]

pub none_counted : (os : List ℕ) (q : ℕ) → has os q ≡ false → count q os ≡ 0
none_counted [] q e = refl
none_counted (o ∷ os) q e = elim (cases_Bool (o == q)) [
  | inl is ↦ absurd (let e' : true ≡ false = rw is at e in cc)
  | inr is ↦ rw is (let e' : has os q ≡ false = rw is at e in let r = none_counted os q e' in omega arith)
]

pub has_cond : {X : Type 0} (P : X → Type 0) (q : ℕ) (os : List ℕ) (x y : X) → (0 < count q os → P x) → (count q os ≡ 0 → P y) → P (cond (has os q) x y)
has_cond P q os x y here there = elim (cases_Bool (has os q)) [
  | inl e ↦ rw e (here (has_counted os q e))
  | inr e ↦ rw e (there (none_counted os q e))
]

pub counted_has : (os : List ℕ) (q : ℕ) → 0 < count q os → has os q ≡ true
counted_has os q some = elim (cases_Bool (has os q)) [
  | inl e ↦ e
  | inr e ↦ absurd (let none = none_counted os q e in omega arith)
]

pub loses_one : (own : List ℕ) (o : ℕ) (left : List ℕ) → Exchanged own (o ∷ []) [] left → 0 < count o own
loses_one own o left e = let a = e o in let b = one_here o in omega arith
