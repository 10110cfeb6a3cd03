-- Rows of a heap that change one by one.
use Rattle.std.proofs.Common.{◌≡◌, refl, sym, ◌∙◌, ap, subst, ℕ, zero, suc, ◌+◌, ◌<◌, ◌≤◌, ◌==◌, ◌||◌, Bool, true, false, not, if◌then◌else◌, List, [], ◌∷◌, ◌++◌, length, map, take, Option, Some, None, All, arith, inl, inr}
use Rattle.std.specs.List.{slice_index_or, filter_map, cons_option}
use Rattle.std.proofs.Math.Bool.{or-true}
use Rattle.std.proofs.lemmas.Bool.{cases_Bool, eqb-true, eq-eqb, and_parts}
use Rattle.std.proofs.lemmas.List.Elements.{All-head, All-tail}
use Rattle.std.proofs.lemmas.List.Folds.{list_any-append}
use Rattle.std.proofs.lemmas.List.Elements.{filter_map-append}
use Rattle.machine_defs.specs.Loans.{count}
use Rattle.machine_defs.specs.Arguments.{has}
use Rattle.machine_defs.specs.NativeFits.{are_distinct}
use Rattle.machine_defs.specs.declared.values.Owner.{Owner}
use Rattle.machine_defs.specs.declared.values.Owner.TheVariants as owner
use Rattle.rref_heap.specs.HeapValue.{HeapRow, HeapRows, HeapValue, row_of, MayOwn}

-- two changes of all rows, one after the other, are this one
pub map_then : {A B C : Type 0} (g : B → C) (f : A → B) (h : A → C) (xs : List A) → ((x : A) → g (f x) ≡ h x) → map g (map f xs) ≡ map h xs
map_then g f h [] same = refl
map_then g f h (x ∷ xs) same = ap (λ y. y ∷ map g (map f xs)) (same x) ∙ ap (λ ys. h x ∷ ys) (map_then g f h xs same)

pub map_same : {A B : Type 0} (f g : A → B) (xs : List A) → ((x : A) → f x ≡ g x) → map f xs ≡ map g xs
map_same f g [] same = refl
map_same f g (x ∷ xs) same = ap (λ y. y ∷ map f xs) (same x) ∙ ap (λ ys. g x ∷ ys) (map_same f g xs same)

pub map_none : {A : Type 0} (f : A → A) (xs : List A) → ((x : A) → f x ≡ x) → map f xs ≡ xs
map_none f [] same = refl
map_none f (x ∷ xs) same = ap (λ y. y ∷ map f xs) (same x) ∙ ap (λ ys. x ∷ ys) (map_none f xs same)

-- the row with a number, once all have changed
index_of_map : (f : Option HeapRow → Option HeapRow) (rows : HeapRows) (k : ℕ) → f None ≡ None → slice_index_or (map f rows) k None ≡ f (slice_index_or rows k None)
index_of_map f [] k none = sym none
index_of_map f (x ∷ rows) zero none = refl
index_of_map f (x ∷ rows) (suc k) none = index_of_map f rows k none

pub row_of_map : (f : Option HeapRow → Option HeapRow) (rows : HeapRows) (o : ℕ) → f None ≡ None → row_of (map f rows) o ≡ f (row_of rows o)
row_of_map f rows zero none = sym none
row_of_map f rows (suc k) none = index_of_map f rows k none

-- who may own objects doesn't hang on the rows
pub may_own_rows : (v : HeapValue) (rows : HeapRows) (w : Owner) → MayOwn v w → MayOwn (record v { rows = rows }) w
may_own_rows v rows (owner.Client c) may = may
may_own_rows v rows (owner.Instance i) may = may

-- numbers in lists
pub has_more : (xs ys : List ℕ) (n : ℕ) → has (xs ++ ys) n ≡ (has xs n || has ys n)
has_more xs ys n = list_any-append (λ x. x == n) xs ys

pub count_more : (n : ℕ) (xs ys : List ℕ) → count n (xs ++ ys) ≡ count n xs + count n ys
count_more n [] ys = let e : count n ys ≡ 0 + count n ys = omega arith in e
count_more n (x ∷ xs) ys =
    let more = count_more n xs ys in
    let e : (if x == n then 1 else 0) + count n (xs ++ ys) ≡ ((if x == n then 1 else 0) + count n xs) + count n ys = omega arith in
    e

pub count_of_none : (n : ℕ) (xs : List ℕ) → has xs n ≡ false → count n xs ≡ 0
count_of_none n [] none = refl
count_of_none n (x ∷ xs) none = elim (cases_Bool (x == n)) [
  | inl yes' ↦ (let no' : true ≡ false = subst (λ b. (b || has xs n) ≡ false) yes' none in cc)
  | inr no' ↦ (let rest : has xs n ≡ false = subst (λ b. (b || has xs n) ≡ false) no' none in rw no' (let e = count_of_none n xs rest in omega arith))
]

pub same_number : (m n : ℕ) → (m == n) ≡ (n == m)
same_number m n = elim (cases_Bool (m == n)) [
  | inl is ↦ (let e = eqb-true m n is in let f = eq-eqb n m (sym e) in is ∙ sym f)
  | inr is ↦ elim (cases_Bool (n == m)) [
    | inl is' ↦ (let e = eqb-true n m is' in let f : (m == n) ≡ true = eq-eqb m n (sym e) in let bad : true ≡ false = sym f ∙ is in cc)
    | inr is' ↦ is ∙ sym is'
  ]
]

pub or_none : (b : Bool) → (b || false) ≡ b
or_none true = refl
or_none false = refl

pub has_one_more : (xs : List ℕ) (o n : ℕ) → has (xs ++ o ∷ []) n ≡ (has xs n || (n == o))
has_one_more xs o n = has_more xs (o ∷ []) n ∙ ap (λ b. has xs n || b) (or_none (o == n) ∙ same_number o n)

pub count_one_more : (xs : List ℕ) (o n : ℕ) → count n (xs ++ o ∷ []) ≡ count n xs + (if n == o then 1 else 0)
count_one_more xs o n =
    let e : (if o == n then 1 else 0) + 0 ≡ (if o == n then 1 else 0) = omega arith in
    count_more n xs (o ∷ []) ∙ ap (λ k. count n xs + k) (e ∙ ap (λ b. if b then 1 else 0) (same_number o n))

-- what all of a list meet, each meets
pub all_has : (P : ℕ → Type 0) (xs : List ℕ) (o : ℕ) → All P xs → has xs o ≡ true → P o
all_has P [] o all is = cc
all_has P (x ∷ xs) o all is = elim (cases_Bool (x == o)) [
  | inl e ↦ subst P (eqb-true x o e) (All-head P x xs all)
  | inr e ↦ all_has P xs o (All-tail P x xs all) (subst (λ b. (b || has xs o) ≡ true) e is)
]

-- what stands at a place of a list
pub has_there : (xs : List ℕ) (i o : ℕ) → i < length xs → o ≡ slice_index_or xs i o → has xs o ≡ true
has_there [] i o lt is = absurd (omega arith)
has_there (x ∷ xs) zero o lt is = rw (eq-eqb x o (sym is)) refl
has_there (x ∷ xs) (suc i) o lt is = rw (has_there xs i o (omega arith) is) (or-true (x == o))

pub counted_before : (xs : List ℕ) (i o : ℕ) → i < length xs → o ≡ slice_index_or xs i o → count o (take i xs) + 1 ≤ count o xs
counted_before [] i o lt is = absurd (omega arith)
counted_before (x ∷ xs) zero o lt is = rw (eq-eqb x o (sym is)) (omega arith)
counted_before (x ∷ xs) (suc i) o lt is = let rest = counted_before xs i o (omega arith) is in omega arith

-- the same of what a list gives
has_behind : (y : Option ℕ) (ys : List ℕ) (o : ℕ) → has ys o ≡ true → has (cons_option y ys) o ≡ true
has_behind None ys o is = is
has_behind (Some y) ys o is = rw is (or-true (y == o))

has_first : (y : Option ℕ) (ys : List ℕ) (o : ℕ) → y ≡ Some o → has (cons_option y ys) o ≡ true
has_first None ys o is = cc
has_first (Some y) ys o is = let e : y ≡ o = cc in rw (eq-eqb y o e) refl

pub has_at : {X : Type 0} (h : X → Option ℕ) (xs : List X) (i : ℕ) (d : X) (o : ℕ) → i < length xs → h (slice_index_or xs i d) ≡ Some o → has (filter_map h xs) o ≡ true
has_at h [] i d o lt is = absurd (omega arith)
has_at h (x ∷ xs) zero d o lt is = has_first (h x) (filter_map h xs) o is
has_at h (x ∷ xs) (suc i) d o lt is = has_behind (h x) (filter_map h xs) o (has_at h xs i d o (omega arith) is)

count_first : (y : Option ℕ) (ys : List ℕ) (o : ℕ) → y ≡ Some o → 1 ≤ count o (cons_option y ys)
count_first None ys o is = cc
count_first (Some y) ys o is = let e : y ≡ o = cc in rw (eq-eqb y o e) (omega arith)

count_behind : (y : Option ℕ) (front ys : List ℕ) (o k : ℕ) → count o front + k ≤ count o ys → count o (cons_option y front) + k ≤ count o (cons_option y ys)
count_behind None front ys o k le = le
count_behind (Some y) front ys o k le = omega arith

pub count_before : {X : Type 0} (h : X → Option ℕ) (xs : List X) (i : ℕ) (d : X) (o : ℕ) → i < length xs → h (slice_index_or xs i d) ≡ Some o → count o (filter_map h (take i xs)) + 1 ≤ count o (filter_map h xs)
count_before h [] i d o lt is = absurd (omega arith)
count_before h (x ∷ xs) zero d o lt is = count_first (h x) (filter_map h xs) o is
count_before h (x ∷ xs) (suc i) d o lt is = count_behind (h x) (filter_map h (take i xs)) (filter_map h xs) o 1 (count_before h xs i d o (omega arith) is)

pub count_front : {X : Type 0} (h : X → Option ℕ) (xs : List X) (i o : ℕ) → count o (filter_map h (take i xs)) + 0 ≤ count o (filter_map h xs)
count_front h [] zero o = omega arith
count_front h [] (suc i) o = omega arith
count_front h (x ∷ xs) zero o = omega arith
count_front h (x ∷ xs) (suc i) o = count_behind (h x) (filter_map h (take i xs)) (filter_map h xs) o 0 (count_front h xs i o)

-- of distinct numbers none stands before itself
distinct_behind : (y : Option ℕ) (front ys : List ℕ) (o : ℕ) → are_distinct (cons_option y ys) ≡ true → has ys o ≡ true → (are_distinct ys ≡ true → has front o ≡ false) → has (cons_option y front) o ≡ false
distinct_behind None front ys o once is before = before once
distinct_behind (Some y) front ys o once is before =
    let parts = and_parts (not (has ys y)) (are_distinct ys) once in
    elim (cases_Bool (y == o)) [
      | inl e ↦ (let same : y ≡ o = eqb-true y o e in let is' : has ys y ≡ true = subst (λ n. has ys n ≡ true) (sym same) is in let bad : not true ≡ true = subst (λ b. not b ≡ true) is' parts.0 in cc)
      | inr e ↦ rw e (before parts.1)
    ]

pub none_before : {X : Type 0} (h : X → Option ℕ) (xs : List X) (i : ℕ) (d : X) (o : ℕ) → i < length xs → h (slice_index_or xs i d) ≡ Some o → are_distinct (filter_map h xs) ≡ true → has (filter_map h (take i xs)) o ≡ false
none_before h [] i d o lt is once = absurd (omega arith)
none_before h (x ∷ xs) zero d o lt is once = refl
none_before h (x ∷ xs) (suc i) d o lt is once = distinct_behind (h x) (filter_map h (take i xs)) (filter_map h xs) o once (has_at h xs i d o (omega arith) is) (none_before h xs i d o (omega arith) is)

-- one item more
pub given_more : {X : Type 0} (h : X → Option ℕ) (xs : List X) (x : X) → filter_map h (xs ++ x ∷ []) ≡ filter_map h xs ++ filter_map h (x ∷ [])
given_more h xs x = filter_map-append h xs (x ∷ [])
