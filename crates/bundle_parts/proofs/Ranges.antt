-- Ranges of lists.
use Rattle.std.proofs.Common.{◌≡◌, ℕ, zero, suc, ◌+◌, ◌-◌, ◌<◌, ◌≤◌, List, [], ◌∷◌, length, take, drop, map, Some, refl, sym, ap, ◌∙◌, arith, length-drop}
use Rattle.std.specs.Prelude.{slice_get, slice_range}
use Rattle.std.proofs.lemmas.List.{length-take, take-map, drop-map}

pub get_drop : {A : Type 0} (xs : List A) (from i : ℕ) → slice_get (drop from xs) i ≡ slice_get xs (from + i)
get_drop xs zero i = ap (slice_get xs) (let e : i ≡ 0 + i = omega arith in e)
get_drop [] (suc from) i = refl
get_drop (x ∷ xs) (suc from) i = get_drop xs from i ∙ ap (slice_get (x ∷ xs)) (let e : suc (from + i) ≡ suc from + i = omega arith in e)

pub get_take : {A : Type 0} (xs : List A) (count i : ℕ) (x : A) → slice_get (take count xs) i ≡ Some x → (i < count) × (slice_get xs i ≡ Some x)
get_take xs zero i x e = absurd cc
get_take [] (suc count) i x e = absurd cc
get_take (y ∷ ys) (suc count) zero x e = (omega arith, e)
get_take (y ∷ ys) (suc count) (suc i) x e = let p = get_take ys count i x e in (omega (arith, p.0), p.1)

pub get_taken : {A : Type 0} (xs : List A) (count i : ℕ) → i < count → slice_get (take count xs) i ≡ slice_get xs i
get_taken xs zero i lt = absurd (omega arith)
get_taken [] (suc count) i lt = refl
get_taken (y ∷ ys) (suc count) zero lt = refl
get_taken (y ∷ ys) (suc count) (suc i) lt = get_taken ys count i (omega arith)

-- an element of a range stands in the list
pub in_range : {A : Type 0} (xs : List A) (from upto i : ℕ) (x : A) → slice_get (slice_range xs from upto) i ≡ Some x → (from + i < upto) × (slice_get xs (from + i) ≡ Some x)
in_range xs from upto i x e =
    let p = get_take (drop from xs) (upto - from) i x e in
    (omega (arith, p.0), sym (get_drop xs from i) ∙ p.1)

-- an element of the list stands in a range that goes over its place
pub range_has : {A : Type 0} (xs : List A) (from upto i : ℕ) (x : A) → from + i < upto → slice_get xs (from + i) ≡ Some x → slice_get (slice_range xs from upto) i ≡ Some x
range_has xs from upto i x lt e = get_taken (drop from xs) (upto - from) i (omega (arith, lt)) ∙ get_drop xs from i ∙ e

pub range_length : {A : Type 0} (xs : List A) (from upto : ℕ) → from ≤ upto → upto ≤ length xs → length (slice_range xs from upto) ≡ upto - from
range_length {A} xs from upto le fits = omega (arith, length-take (upto - from) (drop from xs), length-drop from xs, le, fits)

pub range_map : {A B : Type 0} (f : A → B) (xs : List A) (from upto : ℕ) → map f (slice_range xs from upto) ≡ slice_range (map f xs) from upto
range_map f xs from upto = sym (take-map f (upto - from) (drop from xs)) ∙ ap (take (upto - from)) (sym (drop-map f from xs))
