-- Rows of a list by their numbers, from 1.
use Rattle.std.proofs.Common.{◌≡◌, ◌≢◌, ℕ, zero, suc, ◌-◌, ◌<◌, ◌≤◌, List, [], ◌∷◌, length, Some, slice_get, slice_set, refl, ap, sym, arith, slice_index_or, replicate}
use Rattle.std.proofs.lemmas.Bool.{eq-eqb, ne_eqb}
use Rattle.rl_defs.specs.Rows.{row}
use Rattle.rl_defs.proofs.Places.{get_set_same, get_set_other}
use Rattle.machine_laws.specs.Ledger.{at}

pub at_same : {A : Type 0} (k : ℕ) (x : A) (f : ℕ → A) → at k x f k ≡ x
at_same k x f = rw (eq-eqb k k refl) refl

pub at_other : {A : Type 0} (k : ℕ) (x : A) (f : ℕ → A) (j : ℕ) → j ≢ k → at k x f j ≡ f j
at_other k x f j ne = rw (ne_eqb j k ne) refl

-- a row that is there is one of 1 to the list's length
pub row_within : {A : Type 0} (xs : List A) (n : ℕ) (x : A) → row xs n ≡ Some x → (0 < n) × (n ≤ length xs)
row_within xs zero x e = absurd cc
row_within [] (suc n) x e = absurd cc
row_within (y ∷ xs) (suc zero) x e = (omega arith, omega arith)
row_within (y ∷ xs) (suc (suc n)) x e = let r = row_within xs (suc n) x e in (omega arith, omega (arith, r.1))

pub row_set_same : {A : Type 0} (xs : List A) (n : ℕ) (y : A) → 0 < n → n ≤ length xs → row (slice_set xs (n - 1) y) n ≡ Some y
row_set_same xs zero y pos le = absurd (omega arith)
row_set_same xs (suc n) y pos le = let e : suc n - 1 ≡ n = omega arith in rw e (get_set_same xs n y (omega arith))

pub row_set_other : {A : Type 0} (xs : List A) (n j : ℕ) (y : A) → 0 < n → j ≢ n → row (slice_set xs (n - 1) y) j ≡ row xs j
row_set_other xs zero j y pos ne = absurd (omega arith)
row_set_other xs (suc n) zero y pos ne = refl
row_set_other xs (suc n) (suc j) y pos ne = let e : suc n - 1 ≡ n = omega arith in rw e (get_set_other xs n j y (λ e'. ne (ap (λ k. suc k) e')))

pub set_self : {A : Type 0} (xs : List A) (k : ℕ) (x : A) → slice_get xs k ≡ Some x → slice_set xs k x ≡ xs
set_self [] k x is = absurd cc
set_self (y ∷ xs) zero x is = let e : y ≡ x = cc in ap (λ z. z ∷ xs) (sym e)
set_self (y ∷ xs) (suc k) x is = ap (λ zs. y ∷ zs) (set_self xs k x is)

-- a row that is set to what it is
pub row_set_self : {A : Type 0} (xs : List A) (n : ℕ) (x : A) → row xs n ≡ Some x → slice_set xs (n - 1) x ≡ xs
row_set_self xs zero x is = absurd cc
row_set_self xs (suc n) x is = let e : suc n - 1 ≡ n = omega arith in rw e (set_self xs n x is)

pub zeros : (n k : ℕ) → ◌≡◌ {A = ℕ} (slice_index_or (replicate n 0) k 0) 0
zeros zero k = refl
zeros (suc n) zero = refl
zeros (suc n) (suc k) = zeros n k

pub item_there : {A : Type 0} (xs : List A) (k : ℕ) → k < length xs → (x : A) × (slice_get xs k ≡ Some x)
item_there [] k lt = absurd (omega arith)
item_there (y ∷ xs) zero lt = (y, refl)
item_there (y ∷ xs) (suc k) lt = item_there xs k (omega arith)
