-- Items of lists: of those that are put together of lists, and what holds of all.
use Rattle.std.proofs.Common.{◌≡◌, ℕ, zero, suc, ◌+◌, ◌<◌, ◌≤◌, ◌⊎◌, inl, inr, Bool, true, false, ◌&&◌, List, [], ◌∷◌, ◌++◌, length, map, Some, None, refl, sym, ap, subst, ◌∙◌, arith}
use Rattle.std.specs.Prelude.{slice_get}
use Rattle.std.specs.List.{flat_map, slice_index_or, All, AllPairs, AllZip, Contains}
use Rattle.std.specs.Prelude.{◌≢◌}
use Rattle.std.proofs.lemmas.Bool.{cases_order}
use Rattle.std.proofs.lemmas.Option.{get_or_from_slice_get}

pub and_left : (a b : Bool) → (a && b) ≡ true → a ≡ true
and_left true b e = refl
and_left false b e = absurd cc

pub and_right : (a b : Bool) → (a && b) ≡ true → b ≡ true
and_right true b e = e
and_right false b e = absurd cc

pub both_true : (a b : Bool) → a ≡ true → b ≡ true → (a && b) ≡ true
both_true a b e d = rw (e, d) refl

pub not_false : (b : Bool) → (b ≡ false → ⊥) → b ≡ true
not_false true never = refl
not_false false never = absurd (never refl)

pub not_true : (b : Bool) → (b ≡ true → ⊥) → b ≡ false
not_true true never = absurd (never refl)
not_true false never = refl

-- an item of two lists, one after the other, stands in the first or in the second
pub get_both : {A : Type 0} (xs ys : List A) (i : ℕ) (z : A) → slice_get (xs ++ ys) i ≡ Some z → (slice_get xs i ≡ Some z) ⊎ ((j : ℕ) × (i ≡ length xs + j) × (slice_get ys j ≡ Some z))
get_both [] ys i z e = inr (i, omega arith, e)
get_both (x ∷ xs) ys zero z e = inl e
get_both (x ∷ xs) ys (suc i) z e = elim (get_both xs ys i z e) [
  | inl a ↦ inl a
  | inr b ↦ inr (b.0, omega (arith, b.1), b.2)
]

pub get_second : {A : Type 0} (xs ys : List A) (j : ℕ) → slice_get (xs ++ ys) (length xs + j) ≡ slice_get ys j
get_second [] ys j = ap (slice_get ys) (omega arith)
get_second (x ∷ xs) ys j = let e : length (x ∷ xs) + j ≡ suc (length xs + j) = omega arith in ap (slice_get (x ∷ (xs ++ ys))) e ∙ get_second xs ys j

-- An item of a list that is put together comes from an item.
pub record Comes {A B : Type 0} (f : A → List B) (xs : List A) (y : B) : Type 0 where
  pub place : ℕ
  pub item : A
  pub here : slice_get xs place ≡ Some item
  pub inner : ℕ
  pub there : slice_get (f item) inner ≡ Some y

pub comes : {A B : Type 0} (f : A → List B) (xs : List A) (j : ℕ) (y : B) → slice_get (flat_map f xs) j ≡ Some y → Comes f xs y
comes f [] j y e = absurd cc
comes f (x ∷ xs) j y e = elim (get_both (f x) (flat_map f xs) j y e) [
  | inl a ↦ record { place = 0; item = x; here = refl; inner = j; there = a }
  | inr b ↦ let c = comes f xs b.0 y b.2 in record { place = suc c.place; item = c.item; here = c.here; inner = c.inner; there = c.there }
]

-- what an item gives stands in the whole
pub goes : {A B : Type 0} (f : A → List B) (xs : List A) (k i : ℕ) (x : A) (y : B) → slice_get xs k ≡ Some x → slice_get (f x) i ≡ Some y → (j : ℕ) × (slice_get (flat_map f xs) j ≡ Some y)
goes f [] k i x y e t = absurd cc
goes {A} {B} f (z ∷ xs) zero i x y e t =
    let same : x ≡ z = cc in
    let at = subst (λ (w : A). slice_get (f w) i ≡ Some y) same t in
    (i, front (f z) (flat_map f xs) i at) where
      front : (cs bs : List B) (n : ℕ) → slice_get cs n ≡ Some y → slice_get (cs ++ bs) n ≡ Some y
      front [] bs n h = absurd cc
      front (a ∷ cs) bs zero h = h
      front (a ∷ cs) bs (suc n) h = front cs bs n h
goes f (z ∷ xs) (suc k) i x y e t = let g = goes f xs k i x y e t in (length (f z) + g.0, get_second (f z) (flat_map f xs) g.0 ∙ g.1)

-- Of two items of the whole the earlier one comes from an earlier item, or from the same one.
pub record ComeBoth {A B : Type 0} (f : A → List B) (xs : List A) (y z : B) : Type 0 where
  pub first : Comes f xs y
  pub second : Comes f xs z
  pub order : (first.place < second.place) ⊎ ((first.place ≡ second.place) × (first.inner < second.inner))

pub come_both : {A B : Type 0} (f : A → List B) (xs : List A) (j k : ℕ) (y z : B) → j < k → slice_get (flat_map f xs) j ≡ Some y → slice_get (flat_map f xs) k ≡ Some z → ComeBoth f xs y z
come_both f [] j k y z lt e d = absurd cc
come_both {A} {B} f (x ∷ xs) j k y z lt e d = by (λ i n l. come_both f xs i n y z l) (get_both (f x) (flat_map f xs) j y e) (get_both (f x) (flat_map f xs) k z d) where
  by : ((i n : ℕ) → i < n → slice_get (flat_map f xs) i ≡ Some y → slice_get (flat_map f xs) n ≡ Some z → ComeBoth f xs y z) → (slice_get (f x) j ≡ Some y) ⊎ ((i : ℕ) × (j ≡ length (f x) + i) × (slice_get (flat_map f xs) i ≡ Some y)) → (slice_get (f x) k ≡ Some z) ⊎ ((i : ℕ) × (k ≡ length (f x) + i) × (slice_get (flat_map f xs) i ≡ Some z)) → ComeBoth f (x ∷ xs) y z
  by more (inl a) (inl b) = record { first = record { place = 0; item = x; here = refl; inner = j; there = a }; second = record { place = 0; item = x; here = refl; inner = k; there = b }; order = inr (refl, lt) }
  by more (inl a) (inr b) =
      let c = comes f xs b.0 z b.2 in
      record { first = record { place = 0; item = x; here = refl; inner = j; there = a }; second = record { place = suc c.place; item = c.item; here = c.here; inner = c.inner; there = c.there }; order = inl (omega arith) }
  by more (inr a) (inl b) = absurd (let within = get_in (f x) k z b in omega (arith, within, lt, a.1)) where
    get_in : (bs : List B) (n : ℕ) (w : B) → slice_get bs n ≡ Some w → n < length bs
    get_in [] n w h = absurd cc
    get_in (c ∷ bs) zero w h = omega arith
    get_in (c ∷ bs) (suc n) w h = omega (arith, get_in bs n w h)
  by more (inr a) (inr b) =
      let r = more a.0 b.0 (omega (arith, lt, a.1, b.1)) a.2 b.2 in
      record {
        first = record { place = suc r.first.place; item = r.first.item; here = r.first.here; inner = r.first.inner; there = r.first.there };
        second = record { place = suc r.second.place; item = r.second.item; here = r.second.here; inner = r.second.inner; there = r.second.there };
        order = elim r.order [ inl l ↦ inl (omega (arith, l)) | inr s ↦ inr (omega (arith, s.0), s.1) ];
      }

-- two items of the same place are one
pub same_item : {A : Type 0} (xs : List A) (j k : ℕ) (x y : A) → j ≡ k → slice_get xs j ≡ Some x → slice_get xs k ≡ Some y → x ≡ y
same_item {A} xs j k x y same e d = some_same (sym e ∙ ap (slice_get xs) same ∙ d) where
  some_same : {a b : A} → Some a ≡ Some b → a ≡ b
  some_same h = cc

pub get_map : {A B : Type 0} (f : A → B) (xs : List A) (k : ℕ) (x : A) → slice_get xs k ≡ Some x → slice_get (map f xs) k ≡ Some (f x)
get_map f [] k x e = absurd cc
get_map f (y ∷ ys) zero x e = let same : y ≡ x = cc in ap (λ (z : _). Some (f z)) same
get_map f (y ∷ ys) (suc k) x e = get_map f ys k x e

pub map_get : {A B : Type 0} (f : A → B) (xs : List A) (k : ℕ) (y : B) → slice_get (map f xs) k ≡ Some y → (x : A) × (slice_get xs k ≡ Some x) × (f x ≡ y)
map_get f [] k y e = absurd cc
map_get f (x ∷ xs) zero y e = (x, refl, cc)
map_get f (x ∷ xs) (suc k) y e = map_get f xs k y e

pub in_list : {A : Type 0} (xs : List A) (k : ℕ) (x : A) → slice_get xs k ≡ Some x → k < length xs
in_list [] k x e = absurd cc
in_list (y ∷ xs) zero x e = omega arith
in_list (y ∷ xs) (suc k) x e = omega (arith, in_list xs k x e)

pub list_at : {A : Type 0} (xs : List A) (k : ℕ) → k < length xs → (x : A) × (slice_get xs k ≡ Some x)
list_at [] k lt = absurd (omega arith)
list_at (x ∷ xs) zero lt = (x, refl)
list_at (x ∷ xs) (suc k) lt = list_at xs k (omega (arith, lt))

pub list_past : {A : Type 0} (xs : List A) (k : ℕ) → length xs ≤ k → slice_get xs k ≡ None
list_past [] k le = refl
list_past (x ∷ xs) zero le = absurd (omega arith)
list_past (x ∷ xs) (suc k) le = list_past xs k (omega (arith, le))

pub length_both : {A : Type 0} (xs ys : List A) → length (xs ++ ys) ≡ length xs + length ys
length_both [] ys = omega arith
length_both (x ∷ xs) ys = omega (arith, length_both xs ys)

pub get_first : {A : Type 0} (xs ys : List A) (i : ℕ) (x : A) → slice_get xs i ≡ Some x → slice_get (xs ++ ys) i ≡ Some x
get_first [] ys i x e = absurd cc
get_first (z ∷ xs) ys zero x e = e
get_first (z ∷ xs) ys (suc i) x e = get_first xs ys i x e

-- the first of a list, or what stands for it
pub first_or : {A : Type 0} (xs : List A) (d : A) → (slice_index_or xs 0 d ≡ d) ⊎ ((x : A) × (slice_get xs 0 ≡ Some x) × (slice_index_or xs 0 d ≡ x))
first_or [] d = inl refl
first_or (x ∷ xs) d = inr (x, refl, refl)

-- the first of a list that has an item
pub first_of_some : {A : Type 0} (xs : List A) (d : A) (i : ℕ) (y : A) → slice_get xs i ≡ Some y → (x : A) × (slice_get xs 0 ≡ Some x) × (slice_index_or xs 0 d ≡ x)
first_of_some [] d i y e = absurd cc
first_of_some (x ∷ xs) d i y e = (x, refl, refl)

-- ---- what holds of all items, of each two, and place by place

pub all_at : {A : Type 0} (P : A → Type 0) (xs : List A) (k : ℕ) (x : A) → All P xs → slice_get xs k ≡ Some x → P x
all_at P xs k x all e = subst P (get_or_from_slice_get xs k x x e) (all k x (in_list xs k x e))

pub all_of : {A : Type 0} (P : A → Type 0) (xs : List A) → ((k : ℕ) (x : A) → slice_get xs k ≡ Some x → P x) → All P xs
all_of P xs each k d within = let x = list_at xs k within in subst P (sym (get_or_from_slice_get xs k x.0 d x.1)) (each k x.0 x.1)

pub contains_at : {A : Type 0} (xs : List A) (k : ℕ) (x : A) → slice_get xs k ≡ Some x → Contains xs x
contains_at xs k x e = (k, in_list xs k x e, get_or_from_slice_get xs k x x e)

pub at_contained : {A : Type 0} (xs : List A) (x : A) → Contains xs x → (k : ℕ) × (slice_get xs k ≡ Some x)
at_contained xs x c = let y = list_at xs c.0 c.1 in (c.0, y.1 ∙ ap (λ z. Some z) (sym (get_or_from_slice_get xs c.0 y.0 x y.1) ∙ c.2))

-- no two items are one
pub pairs_of : {A : Type 0} (xs : List A) → ((j k : ℕ) (x : A) → slice_get xs j ≡ Some x → slice_get xs k ≡ Some x → j ≡ k) → AllPairs ◌≢◌ xs
pairs_of xs apart j k d lt within e =
    let x = list_at xs j (omega (arith, lt, within)) in
    let y = list_at xs k within in
    let same : x.0 ≡ y.0 = sym (get_or_from_slice_get xs j x.0 d x.1) ∙ e ∙ get_or_from_slice_get xs k y.0 d y.1 in
    let is = apart j k y.0 (x.1 ∙ ap (λ z. Some z) same) y.1 in
    omega (arith, lt, is)

pub of_pairs : {A : Type 0} (xs : List A) → AllPairs ◌≢◌ xs → (j k : ℕ) (x : A) → slice_get xs j ≡ Some x → slice_get xs k ≡ Some x → j ≡ k
of_pairs xs pairs j k x e d =
    let one = get_or_from_slice_get xs j x x e in
    let two = get_or_from_slice_get xs k x x d in
    elim (cases_order j k) [
      | inl same ↦ same
      | inr (inl less) ↦ absurd (pairs j k x less (in_list xs k x d) (one ∙ sym two))
      | inr (inr more) ↦ absurd (pairs k j x more (in_list xs j x e) (two ∙ sym one))
    ]

pub zip_length : {A B : Type 0} (R : A → B → Type 0) (xs : List A) (ys : List B) → AllZip R xs ys → length ys ≡ length xs
zip_length R [] [] all = refl
zip_length R [] (y ∷ ys) all = absurd all
zip_length R (x ∷ xs) [] all = absurd all
zip_length R (x ∷ xs) (y ∷ ys) all = omega (arith, zip_length R xs ys all.1)

pub zip_at : {A B : Type 0} (R : A → B → Type 0) (xs : List A) (ys : List B) (k : ℕ) (y : B) → AllZip R xs ys → slice_get ys k ≡ Some y → (x : A) × (slice_get xs k ≡ Some x) × R x y
zip_at R xs [] k y all e = absurd cc
zip_at R [] (z ∷ ys) k y all e = absurd all
zip_at R (x ∷ xs) (z ∷ ys) zero y all e = let same : z ≡ y = cc in (x, refl, subst (λ w. R x w) same all.0)
zip_at R (x ∷ xs) (z ∷ ys) (suc k) y all e = zip_at R xs ys k y all.1 e

pub zip_of : {A B : Type 0} (R : A → B → Type 0) (xs : List A) (ys : List B) → length ys ≡ length xs → ((k : ℕ) (x : A) (y : B) → slice_get xs k ≡ Some x → slice_get ys k ≡ Some y → R x y) → AllZip R xs ys
zip_of R [] [] same each = tt
zip_of R [] (y ∷ ys) same each = absurd (omega (arith, same))
zip_of R (x ∷ xs) [] same each = absurd (omega (arith, same))
zip_of R (x ∷ xs) (y ∷ ys) same each = (each 0 x y refl refl, zip_of R xs ys (omega (arith, same)) (λ k a b e d. each (suc k) a b e d))
