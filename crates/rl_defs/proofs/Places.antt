-- Items of a list by their places.
use Rattle.std.proofs.Common.{◌≡◌, ◌≢◌, ℕ, zero, suc, ◌+◌, ◌<◌, ◌⊎◌, inl, inr, List, [], ◌∷◌, ◌++◌, length, drop, Some, None, refl, ap, arith, add-one}
use Rattle.std.specs.Prelude.{slice_get, slice_set}

pub get_front : {A : Type 0} (xs ys : List A) (i : ℕ) (x : A) → slice_get xs i ≡ Some x → slice_get (xs ++ ys) i ≡ Some x
get_front [] ys i x e = absurd cc
get_front (z ∷ xs) ys zero x e = e
get_front (z ∷ xs) ys (suc i) x e = get_front xs ys i x e

pub get_seam : {A : Type 0} (xs : List A) (y : A) (ys : List A) → slice_get (xs ++ y ∷ ys) (length xs) ≡ Some y
get_seam [] y ys = refl
get_seam (x ∷ xs) y ys = get_seam xs y ys

pub get_within : {A : Type 0} (xs : List A) (i : ℕ) (x : A) → slice_get xs i ≡ Some x → i < length xs
get_within [] i x e = absurd cc
get_within (y ∷ xs) zero x e = omega arith
get_within (y ∷ xs) (suc i) x e = omega (arith, get_within xs i x e)

-- an item of a list with one more is that one, or stood there before
pub get_last : {A : Type 0} (xs : List A) (y : A) (i : ℕ) (z : A) → slice_get (xs ++ y ∷ []) i ≡ Some z → (slice_get xs i ≡ Some z) ⊎ ((i ≡ length xs) × (z ≡ y))
get_last [] y zero z e = inr (refl, cc)
get_last [] y (suc i) z e = absurd cc
get_last (x ∷ xs) y zero z e = inl e
get_last (x ∷ xs) y (suc i) z e = elim (get_last xs y i z e) [ inl a ↦ inl a | inr b ↦ inr (omega (arith, b.0), b.1) ]

pub get_set_same : {A : Type 0} (xs : List A) (i : ℕ) (y : A) → i < length xs → slice_get (slice_set xs i y) i ≡ Some y
get_set_same [] i y lt = absurd (omega arith)
get_set_same (x ∷ xs) zero y lt = refl
get_set_same (x ∷ xs) (suc i) y lt = get_set_same xs i y (omega arith)

pub get_set_other : {A : Type 0} (xs : List A) (i j : ℕ) (y : A) → j ≢ i → slice_get (slice_set xs i y) j ≡ slice_get xs j
get_set_other [] i j y ne = refl
get_set_other (x ∷ xs) zero zero y ne = absurd (ne refl)
get_set_other (x ∷ xs) zero (suc j) y ne = refl
get_set_other (x ∷ xs) (suc i) zero y ne = refl
get_set_other (x ∷ xs) (suc i) (suc j) y ne = get_set_other xs i j y (λ e. ne (ap (λ n. suc n) e))

-- an item of a list that was set at one place is the new one, or stood there before
pub get_set : {A : Type 0} (xs : List A) (i j : ℕ) (y z : A) → slice_get (slice_set xs i y) j ≡ Some z → ((j ≡ i) × (z ≡ y)) ⊎ ((j ≢ i) × (slice_get xs j ≡ Some z))
get_set [] i j y z e = absurd cc
get_set (x ∷ xs) zero zero y z e = inl (refl, cc)
get_set (x ∷ xs) zero (suc j) y z e = inr (λ e'. omega arith, e)
get_set (x ∷ xs) (suc i) zero y z e = inr (λ e'. omega arith, e)
get_set (x ∷ xs) (suc i) (suc j) y z e = elim (get_set xs i j y z e) [
  | inl a ↦ inl (ap (λ n. suc n) a.0, a.1)
  | inr b ↦ inr (λ e'. b.0 (omega (arith, e')), b.1)
]

pub drop_suc : {A : Type 0} (xs : List A) (i : ℕ) (x : A) → slice_get xs i ≡ Some x → drop i xs ≡ x ∷ drop (suc i) xs
drop_suc [] i x e = absurd cc
drop_suc (y ∷ xs) zero x e = cc
drop_suc (y ∷ xs) (suc i) x e = drop_suc xs i x e

-- the rest of a list from a place on begins with the item there
pub drop_at : {A : Type 0} (xs : List A) (i : ℕ) (x : A) → slice_get xs i ≡ Some x → drop i xs ≡ x ∷ drop (i + 1) xs
drop_at xs i x e = rw add-one (drop_suc xs i x e)

pub drop_past : {A : Type 0} (xs : List A) (i : ℕ) → slice_get xs i ≡ None → drop i xs ≡ []
drop_past [] zero e = refl
drop_past [] (suc i) e = refl
drop_past (y ∷ xs) zero e = absurd cc
drop_past (y ∷ xs) (suc i) e = drop_past xs i e
