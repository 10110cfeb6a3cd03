-- Sums over the clients, of functions that differ at one.
use Rattle.std.proofs.Common.{◌≡◌, ℕ, zero, suc, ◌+◌, ◌<◌, ◌≤◌, refl, ap, sym, arith, inl, inr}
use Rattle.std.proofs.lemmas.Bool.{cases_eq}
use Rattle.machine_laws.specs.Ledger.{sum_to}
use Rattle.machine_laws.specs.Ledger.{at}
use Rattle.machine_laws.proofs.Rows.{at_same, at_other}

pub sum_same : (f g : ℕ → ℕ) (n : ℕ) → ((t : ℕ) → 0 < t → t ≤ n → f t ≡ g t) → sum_to f n ≡ sum_to g n
sum_same f g zero same = refl
sum_same f g (suc n) same =
    let a = same (suc n) (omega arith) (omega arith) in
    let b = sum_same f g n (λ t lt le. same t lt (omega arith)) in
    omega (arith, a, b)

-- the sum after a change at t
pub sum_at : {A : Type 0} (g : A → ℕ) (f : ℕ → A) (t : ℕ) (x : A) (n : ℕ) → 0 < t → t ≤ n
    → sum_to (λ k. g (at t x f k)) n + g (f t) ≡ sum_to (λ k. g (f k)) n + g x
sum_at g f t x zero pos le = absurd (omega arith)
sum_at g f t x (suc n) pos le = elim (cases_eq t (suc n)) [
  | inl e ↦
      let here : g (at t x f (suc n)) ≡ g x = rw (← e) (ap g (at_same t x f)) in
      let there : g (f t) ≡ g (f (suc n)) = ap (λ k. g (f k)) e in
      let below : sum_to (λ k. g (at t x f k)) n ≡ sum_to (λ k. g (f k)) n = sum_same (λ k. g (at t x f k)) (λ k. g (f k)) n (λ k pos small. ap g (at_other t x f k (λ is. omega arith))) in
      omega arith
  | inr ne ↦
      let here : g (at t x f (suc n)) ≡ g (f (suc n)) = ap g (at_other t x f (suc n) (λ is. ne (sym is))) in
      let below = sum_at g f t x n pos (omega arith) in
      omega arith
]

pub sum_least : (f : ℕ → ℕ) (n t : ℕ) → 0 < t → t ≤ n → f t ≤ sum_to f n
sum_least f zero t pos le = absurd (omega arith)
sum_least f (suc n) t pos le = elim (cases_eq t (suc n)) [
  | inl e ↦ rw e (omega arith)
  | inr ne ↦ let below = sum_least f n t pos (omega arith) in omega arith
]

pub sum_two : (f : ℕ → ℕ) (n t u : ℕ) → 0 < t → t ≤ n → 0 < u → u ≤ n → (t ≡ u → ⊥) → f t + f u ≤ sum_to f n
sum_two f zero t u pos le posu leu ne = absurd (omega arith)
sum_two f (suc n) t u pos le posu leu ne = elim (cases_eq t (suc n)) [
  | inl e ↦ rw e (let below = sum_least f n u posu (omega arith) in omega arith)
  | inr net ↦ elim (cases_eq u (suc n)) [
    | inl e ↦ rw e (let below = sum_least f n t pos (omega arith) in omega arith)
    | inr neu ↦ let below = sum_two f n t u pos (omega arith) posu (omega arith) ne in omega arith
  ]
]

-- where the sum is not 0, one of the numbers is not
pub sum_some : (f : ℕ → ℕ) (n : ℕ) → 0 < sum_to f n → (t : ℕ) × (0 < t) × (t ≤ n) × (0 < f t)
sum_some f zero pos = absurd (omega arith)
sum_some f (suc n) pos = elim (cases_eq (f (suc n)) 0) [
  | inl e ↦ let r = sum_some f n (omega arith) in (r.0, r.1, omega arith, r.3)
  | inr ne ↦ (suc n, omega arith, omega arith, omega arith)
]
