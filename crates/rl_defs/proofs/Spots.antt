-- Where the items of a list that is put together stand.
use Rattle.std.proofs.Common.{◌≡◌, ℕ, zero, suc, ◌+◌, ◌<◌, inl, inr, List, [], ◌∷◌, ◌++◌, length, take, Some, refl, ap, subst, ◌∙◌, arith}
use Rattle.std.specs.Prelude.{slice_get}
use Rattle.std.specs.List.{flat_map}
use Rattle.std.proofs.lemmas.Bool.{cases_order}
use Rattle.rl_defs.proofs.Lists.{get_both, get_first, get_second, length_both, in_list}

-- the place of what an item gives
abbrev pub spot : {A B : Type 0} → (A → List B) → List A → ℕ → ℕ → ℕ
spot f xs k i = length (flat_map f (take k xs)) + i

pub stands_at : {A B : Type 0} (f : A → List B) (xs : List A) (k i : ℕ) (x : A) (y : B) → slice_get xs k ≡ Some x → slice_get (f x) i ≡ Some y → slice_get (flat_map f xs) (spot f xs k i) ≡ Some y
stands_at f [] k i x y e t = absurd cc
stands_at {A} {B} f (z ∷ xs) zero i x y e t =
    let same : x ≡ z = cc in
    let at = subst (λ (w : A). slice_get (f w) i ≡ Some y) same t in
    let first : spot f (z ∷ xs) 0 i ≡ i = omega arith in
    ap (slice_get (f z ++ flat_map f xs)) first ∙ get_first (f z) (flat_map f xs) i y at
stands_at f (z ∷ xs) (suc k) i x y e t =
    let on : spot f (z ∷ xs) (suc k) i ≡ length (f z) + spot f xs k i = omega (arith, length_both (f z) (flat_map f (take k xs))) in
    ap (slice_get (f z ++ flat_map f xs)) on ∙ get_second (f z) (flat_map f xs) (spot f xs k i) ∙ stands_at f xs k i x y e t

-- An item of the whole, with the item that gives it and its place there.
pub record Given {A B : Type 0} (f : A → List B) (xs : List A) (j : ℕ) (y : B) : Type 0 where
  pub place : ℕ
  pub item : A
  pub here : slice_get xs place ≡ Some item
  pub inner : ℕ
  pub there : slice_get (f item) inner ≡ Some y
  pub is : j ≡ spot f xs place inner

pub given_at : {A B : Type 0} (f : A → List B) (xs : List A) (j : ℕ) (y : B) → slice_get (flat_map f xs) j ≡ Some y → Given f xs j y
given_at f [] j y e = absurd cc
given_at f (x ∷ xs) j y e = elim (get_both (f x) (flat_map f xs) j y e) [
  | inl a ↦ record { place = 0; item = x; here = refl; inner = j; there = a; is = omega arith }
  | inr b ↦ let g = given_at f xs b.0 y b.2 in record { place = suc g.place; item = g.item; here = g.here; inner = g.inner; there = g.there; is = omega (arith, b.1, g.is, length_both (f x) (flat_map f (take g.place xs))) }
]

-- what an earlier item gives stands before
pub spot_before : {A B : Type 0} (f : A → List B) (xs : List A) (k n i j : ℕ) (x : A) (y : B) → k < n → slice_get xs k ≡ Some x → slice_get (f x) i ≡ Some y → spot f xs k i < spot f xs n j
spot_before f [] k n i j x y lt e t = absurd cc
spot_before f (z ∷ xs) k zero i j x y lt e t = absurd (omega (arith, lt))
spot_before {A} f (z ∷ xs) zero (suc n) i j x y lt e t =
    let same : x ≡ z = cc in
    let within = in_list (f z) i y (subst (λ (w : A). slice_get (f w) i ≡ Some y) same t) in
    omega (arith, within, length_both (f z) (flat_map f (take n xs)))
spot_before f (z ∷ xs) (suc k) (suc n) i j x y lt e t =
    let rest = spot_before f xs k n i j x y (omega (arith, lt)) e t in
    omega (arith, rest, length_both (f z) (flat_map f (take k xs)), length_both (f z) (flat_map f (take n xs)))

-- items at one place are the same item's, at the same place of it
pub one_spot : {A B : Type 0} (f : A → List B) (xs : List A) (k n i j : ℕ) (x y : A) (u v : B) → slice_get xs k ≡ Some x → slice_get (f x) i ≡ Some u → slice_get xs n ≡ Some y → slice_get (f y) j ≡ Some v → spot f xs k i ≡ spot f xs n j → (k ≡ n) × (i ≡ j)
one_spot f xs k n i j x y u v e a d c same = elim (cases_order k n) [
  | inl is ↦ (let both = ap (λ (m : ℕ). length (flat_map f (take m xs))) is in (is, omega (arith, both, same)))
  | inr (inl less) ↦ absurd (let lt = spot_before f xs k n i j x u less e a in omega (arith, lt, same))
  | inr (inr more) ↦ absurd (let lt = spot_before f xs n k j i y v more d c in omega (arith, lt, same))
]

pub flat_flat : {A B C : Type 0} (f : A → List B) (g : B → List C) (xs : List A) → flat_map g (flat_map f xs) ≡ flat_map (λ x. flat_map g (f x)) xs
flat_flat f g [] = refl
flat_flat {A} {B} {C} f g (x ∷ xs) = parts (f x) (flat_map f xs) ∙ ap (λ (zs : List C). flat_map g (f x) ++ zs) (flat_flat f g xs) where
  assoc : (us vs ws : List C) → us ++ (vs ++ ws) ≡ (us ++ vs) ++ ws
  assoc [] vs ws = refl
  assoc (u ∷ us) vs ws = ap (λ (zs : List C). u ∷ zs) (assoc us vs ws)

  parts : (ys zs : List B) → flat_map g (ys ++ zs) ≡ flat_map g ys ++ flat_map g zs
  parts [] zs = refl
  parts (y ∷ ys) zs = ap (λ (ws : List C). g y ++ ws) (parts ys zs) ∙ assoc (g y) (flat_map g ys) (flat_map g zs)

pub take_get : {A : Type 0} (xs : List A) (n k : ℕ) (x : A) → slice_get (take n xs) k ≡ Some x → (k < n) × (slice_get xs k ≡ Some x)
take_get [] zero k x e = absurd cc
take_get [] (suc n) k x e = absurd cc
take_get (y ∷ ys) zero k x e = absurd cc
take_get (y ∷ ys) (suc n) zero x e = (omega arith, e)
take_get (y ∷ ys) (suc n) (suc k) x e = let r = take_get ys n k x e in (omega (arith, r.0), r.1)
