-- Counts of numbers in lists from which some were taken.
use Rattle.std.proofs.Common.{◌≡◌, ◌≢◌, ℕ, ◌+◌, ◌≤◌, true, false, not, List, [], ◌∷◌, ◌++◌, filter, refl, subst, arith, inl, inr}
use Rattle.std.proofs.lemmas.Bool.{cases_Bool, ne_eqb}
use Rattle.machine_defs.specs.Loans.{count}
use Rattle.machine_defs.specs.Arguments.{has}
use Rattle.machine_laws.proofs.Counts.{has_counted, none_counted}

pub count_append : (p : ℕ) (xs ys : List ℕ) → count p (xs ++ ys) ≡ count p xs + count p ys
count_append p [] ys = omega arith
count_append p (x ∷ xs) ys = let r = count_append p xs ys in omega (arith, r)

-- what isn't among the taken ones stays as often, and what is among them is gone
pub count_left : (os : List ℕ) (p : ℕ) (xs : List ℕ) → has os p ≡ false → count p (filter (λ q. not (has os q)) xs) ≡ count p xs
count_left os p [] out = refl
count_left os p (x ∷ xs) out =
    let deeper = count_left os p xs out in
    elim (cases_Bool (has os x)) [
      | inl gone ↦
          let apart : x ≢ p = λ e. (let h : has os p ≡ true = subst (λ n. has os n ≡ true) e gone in let h' = out in cc) in
          rw (gone, ne_eqb x p apart) (omega (arith, deeper))
      | inr stays ↦ rw stays (omega (arith, deeper))
    ]

pub count_gone : (os : List ℕ) (p : ℕ) (xs : List ℕ) → has os p ≡ true → count p (filter (λ q. not (has os q)) xs) ≡ 0
count_gone os p [] out = refl
count_gone os p (x ∷ xs) out =
    let deeper = count_gone os p xs out in
    elim (cases_Bool (has os x)) [
      | inl gone ↦ rw gone deeper
      | inr stays ↦
          let apart : x ≢ p = λ e. (let h : has os p ≡ false = subst (λ n. has os n ≡ false) e stays in let h' = out in cc) in
          rw (stays, ne_eqb x p apart) (omega (arith, deeper))
    ]

-- taken once each from a list that has each at most once
pub taken : (os : List ℕ) (p : ℕ) (xs : List ℕ) → count p xs ≤ 1 → count p os ≤ count p xs → count p (filter (λ q. not (has os q)) xs) + count p os ≡ count p xs
taken os p xs once among = elim (cases_Bool (has os p)) [
  | inl gone ↦ let a = count_gone os p xs gone in let b = has_counted os p gone in omega (arith, a, b, once, among)
  | inr stays ↦ let a = count_left os p xs stays in let b = none_counted os p stays in omega (arith, a, b)
]
