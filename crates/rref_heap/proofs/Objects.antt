-- The objects of a heap by their numbers: how they are found, and what they are behind each change of its rows.
use Rattle.std.proofs.Common.{◌≡◌, ◌≢◌, ℕ, zero, suc, ◌+◌, ◌<◌, ◌≤◌, ◌==◌, Bool, true, false, not, if◌then◌else◌, inl, inr, List, [], ◌∷◌, ◌++◌, length, map, filter, find, Option, Some, None, refl, sym, ap, ◌∙◌, subst, arith, slice_get}
use Rattle.std.specs.List.{slice_index_or, filter_map}
use Rattle.std.specs.Option.{option_map, option_map_or}
use Rattle.std.proofs.lemmas.Bool.{cases_Bool, ne_eqb, eqb-true, eq-eqb, and_parts, and_from, both_ways}
use Rattle.std.proofs.lemmas.List.Elements.{filter_map-append}
use Rattle.std.proofs.Math.ListN.{get_or-map}
use Rattle.machine_defs.specs.declared.values.Owner.{Owner}
use Rattle.machine_defs.specs.State.{Object, Placement, Root, Hung}
use Rattle.machine_defs.specs.Objects.{hangs_in}
use Rattle.rref_heap.specs.HeapValue.{HeapRow, HeapRows, row_of, object_in, heap_objects, leaves_at, hung_at}
use Rattle.rref_heap.specs.Changing.{on_row, on_object, unless, with_leaving, leaving_if}
use Rattle.rref_heap.specs.Leaving.{swept_row, swept_rows, leaving_number, leaving_in, is_left, row_without, rows_without, left_number, left_by}

-- each row is that of the object with its number
abbrev pub IsNumbered : HeapRows → Type 0
IsNumbered rows = (o : ℕ) (r : HeapRow) → row_of rows o ≡ Some r → r.object.number ≡ o

-- the same of rows that stand behind n others
abbrev pub NumberedBehind : ℕ → HeapRows → Type 0
NumberedBehind n rows = (j : ℕ) (r : HeapRow) → slice_index_or rows j None ≡ Some r → r.object.number ≡ suc (n + j)

-- each object has a greater number than the one before it, the first one a greater than n; all are below the next number
abbrev pub RisesBetween : ℕ → ℕ → List Object → Type 0
RisesBetween n next [] = Unit {0}
RisesBetween n next (x ∷ xs) = (n < x.number) × (x.number < next) × RisesBetween x.number next xs

pub numbered_behind : (rows : HeapRows) → IsNumbered rows → NumberedBehind 0 rows
numbered_behind rows numbered j r is = omega (arith, numbered (suc j) r is)

pub numbered_tail : (n : ℕ) (x : Option HeapRow) (rows : HeapRows) → NumberedBehind n (x ∷ rows) → NumberedBehind (suc n) rows
numbered_tail n x rows numbered j r is = omega (arith, numbered (suc j) r is)

pub numbered_head : (n : ℕ) (r : HeapRow) (rows : HeapRows) → NumberedBehind n (Some r ∷ rows) → r.object.number ≡ suc n
numbered_head n r rows numbered = omega (arith, numbered 0 r refl)

-- The object with a number is found where its row stands.
pub none_below : (n o : ℕ) (rows : HeapRows) → NumberedBehind n rows → o ≤ n → find (λ x. x.number == o) (heap_objects rows) ≡ None
none_below n o [] numbered le = refl
none_below n o (None ∷ rows) numbered le = none_below (suc n) o rows (numbered_tail n None rows numbered) (omega arith)
none_below n o (Some r ∷ rows) numbered le =
    let is = numbered_head n r rows numbered in
    let apart : r.object.number ≢ o = λ e. omega arith in
    rw (ne_eqb r.object.number o apart) (none_below (suc n) o rows (numbered_tail n (Some r) rows numbered) (omega arith))

pub found_behind : (n o j : ℕ) (rows : HeapRows) → NumberedBehind n rows → o ≡ suc (n + j) → find (λ x. x.number == o) (heap_objects rows) ≡ object_in (slice_index_or rows j None)
found_behind n o j [] numbered e = refl
found_behind n o zero (None ∷ rows) numbered e = none_below (suc n) o rows (numbered_tail n None rows numbered) (omega arith)
found_behind n o (suc j) (None ∷ rows) numbered e = found_behind (suc n) o j rows (numbered_tail n None rows numbered) (omega arith)
found_behind n o zero (Some r ∷ rows) numbered e =
    let is = numbered_head n r rows numbered in
    rw (eq-eqb r.object.number o (omega arith)) refl
found_behind n o (suc j) (Some r ∷ rows) numbered e =
    let is = numbered_head n r rows numbered in
    let apart : r.object.number ≢ o = λ e'. omega arith in
    rw (ne_eqb r.object.number o apart) (found_behind (suc n) o j rows (numbered_tail n (Some r) rows numbered) (omega arith))

pub object_found : (rows : HeapRows) → IsNumbered rows → (o : ℕ) → find (λ x. x.number == o) (heap_objects rows) ≡ object_in (row_of rows o)
object_found rows numbered zero = none_below 0 0 rows (numbered_behind rows numbered) (omega arith)
object_found rows numbered (suc j) = found_behind 0 (suc j) j rows (numbered_behind rows numbered) (omega arith)

-- The row of an object that is found by a test, and what that says of each row.
pub record RowBehind (n : ℕ) (rows : HeapRows) (x : Object) : Type 0 where
  pub place : ℕ
  pub row : HeapRow
  pub is : slice_index_or rows place None ≡ Some row
  pub number : x.number ≡ suc (n + place)
  pub object : row.object ≡ x

pub record RowOf (rows : HeapRows) (x : Object) : Type 0 where
  pub row : HeapRow
  pub is : row_of rows x.number ≡ Some row
  pub object : row.object ≡ x

pub row_deeper : (n : ℕ) (y : Option HeapRow) (rows : HeapRows) (x : Object) → RowBehind (suc n) rows x → RowBehind n (y ∷ rows) x
row_deeper n y rows x deeper = record { place = suc deeper.place; row = deeper.row; is = deeper.is; number = omega (arith, deeper.number); object = deeper.object }

pub row_first : (n : ℕ) (r : HeapRow) (rows : HeapRows) (x : Object) → NumberedBehind n (Some r ∷ rows) → r.object ≡ x → RowBehind n (Some r ∷ rows) x
row_first n r rows x numbered e = record {
  place = 0;
  row = r;
  is = refl;
  number = omega (arith, sym (ap (λ y. y.number) e) ∙ numbered_head n r rows numbered);
  object = e;
}

pub row_behind_0 : (rows : HeapRows) (x : Object) → RowBehind 0 rows x → RowOf rows x
row_behind_0 rows x r =
    let e : x.number ≡ suc r.place = omega (arith, r.number) in
    record { row = r.row; is = ap (row_of rows) e ∙ r.is; object = r.object }

pub found_row_behind : (test : Object → Bool) (n : ℕ) (rows : HeapRows) (x : Object) → NumberedBehind n rows → find test (heap_objects rows) ≡ Some x → RowBehind n rows x
found_row_behind test n [] x numbered e = absurd cc
found_row_behind test n (None ∷ rows) x numbered e = row_deeper n None rows x (found_row_behind test (suc n) rows x (numbered_tail n None rows numbered) e)
found_row_behind test n (Some r ∷ rows) x numbered e = elim (cases_Bool (test r.object)) [
  | inl is ↦ row_first n r rows x numbered (let e' : Some r.object ≡ Some x = rw is at e in cc)
  | inr isn't ↦ row_deeper n (Some r) rows x (found_row_behind test (suc n) rows x (numbered_tail n (Some r) rows numbered) (rw isn't at e))
]

pub found_row : (test : Object → Bool) (rows : HeapRows) (x : Object) → IsNumbered rows → find test (heap_objects rows) ≡ Some x → RowOf rows x
found_row test rows x numbered e = row_behind_0 rows x (found_row_behind test 0 rows x (numbered_behind rows numbered) e)

pub found_passes : (test : Object → Bool) (rows : HeapRows) (x : Object) → find test (heap_objects rows) ≡ Some x → test x ≡ true
found_passes test [] x e = absurd cc
found_passes test (None ∷ rows) x e = found_passes test rows x e
found_passes test (Some r ∷ rows) x e = elim (cases_Bool (test r.object)) [
  | inl is ↦ (let e' : Some r.object ≡ Some x = rw is at e in let same : r.object ≡ x = cc in ap test (sym same) ∙ is)
  | inr isn't ↦ found_passes test rows x (rw isn't at e)
]

pub none_passes : (test : Object → Bool) (rows : HeapRows) → find test (heap_objects rows) ≡ None → (j : ℕ) (r : HeapRow) → slice_index_or rows j None ≡ Some r → test r.object ≡ false
none_passes test [] e j r is = absurd cc
none_passes test (None ∷ rows) e zero r is = absurd cc
none_passes test (None ∷ rows) e (suc j) r is = none_passes test rows e j r is
none_passes test (Some q ∷ rows) e zero r is = elim (cases_Bool (test q.object)) [
  | inl passes ↦ absurd (let e' : Some q.object ≡ None = rw passes at e in cc)
  | inr fails ↦ (let same : q ≡ r = cc in ap (λ r. test r.object) (sym same) ∙ fails)
]
none_passes test (Some q ∷ rows) e (suc j) r is = elim (cases_Bool (test q.object)) [
  | inl passes ↦ absurd (let e' : Some q.object ≡ None = rw passes at e in cc)
  | inr fails ↦ none_passes test rows (rw fails at e) j r is
]

-- Each object of the heap is found by its number.
pub listed_row_behind : (n k : ℕ) (rows : HeapRows) (x : Object) → NumberedBehind n rows → slice_get (heap_objects rows) k ≡ Some x → RowBehind n rows x
listed_row_behind n k [] x numbered e = absurd cc
listed_row_behind n k (None ∷ rows) x numbered e = row_deeper n None rows x (listed_row_behind (suc n) k rows x (numbered_tail n None rows numbered) e)
listed_row_behind n zero (Some r ∷ rows) x numbered e = row_first n r rows x numbered (let e' : Some r.object ≡ Some x = e in cc)
listed_row_behind n (suc k) (Some r ∷ rows) x numbered e = row_deeper n (Some r) rows x (listed_row_behind (suc n) k rows x (numbered_tail n (Some r) rows numbered) e)

pub listed_row : (k : ℕ) (rows : HeapRows) (x : Object) → IsNumbered rows → slice_get (heap_objects rows) k ≡ Some x → RowOf rows x
listed_row k rows x numbered e = row_behind_0 rows x (listed_row_behind 0 k rows x (numbered_behind rows numbered) e)

pub listed_found : (k : ℕ) (rows : HeapRows) (x : Object) → IsNumbered rows → slice_get (heap_objects rows) k ≡ Some x → find (λ y. y.number == x.number) (heap_objects rows) ≡ Some x
listed_found k rows x numbered e =
    let r = listed_row k rows x numbered e in
    object_found rows numbered x.number ∙ (ap object_in r.is ∙ ap Some r.object)

-- Objects stand by rising number.
pub rises_lower : (m n next : ℕ) (xs : List Object) → m ≤ n → RisesBetween n next xs → RisesBetween m next xs
rises_lower m n next [] le rises = tt
rises_lower m n next (x ∷ xs) le rises = (omega (arith, rises.0), rises.1, rises.2)

pub rises_behind : (n : ℕ) (rows : HeapRows) → NumberedBehind n rows → RisesBetween n (suc (n + length rows)) (heap_objects rows)
rises_behind n [] numbered = tt
rises_behind n (None ∷ rows) numbered =
    let deeper = rises_behind (suc n) rows (numbered_tail n None rows numbered) in
    let e : suc (suc n + length rows) ≡ suc (n + suc (length rows)) = omega arith in
    subst (λ (next : ℕ). RisesBetween n next (heap_objects rows)) e (rises_lower n (suc n) (suc (suc n + length rows)) (heap_objects rows) (omega arith) deeper)
rises_behind n (Some r ∷ rows) numbered =
    let deeper = rises_behind (suc n) rows (numbered_tail n (Some r) rows numbered) in
    let is = numbered_head n r rows numbered in
    let e : suc (suc n + length rows) ≡ suc (n + suc (length rows)) = omega arith in
    (omega arith, omega arith, subst (λ (m : ℕ). RisesBetween m (suc (n + suc (length rows))) (heap_objects rows)) (sym is) (subst (λ (next : ℕ). RisesBetween (suc n) next (heap_objects rows)) e deeper))

pub objects_rise : (rows : HeapRows) → IsNumbered rows → RisesBetween 0 (length rows + 1) (heap_objects rows)
objects_rise rows numbered = subst (λ (next : ℕ). RisesBetween 0 next (heap_objects rows)) (omega arith) (rises_behind 0 rows (numbered_behind rows numbered))

-- Behind a change of one object, or of a row that keeps its object.
pub objects_on_object : (o : ℕ) (f : Object → Object) (rows : HeapRows) → heap_objects (map (on_object o f) rows) ≡ map (λ x. if x.number == o then f x else x) (heap_objects rows)
objects_on_object o f [] = refl
objects_on_object o f (None ∷ rows) = objects_on_object o f rows
objects_on_object o f (Some r ∷ rows) = elim (cases_Bool (r.object.number == o)) [
  | inl is ↦ rw (is, objects_on_object o f rows) refl
  | inr isn't ↦ rw (isn't, objects_on_object o f rows) refl
]

pub objects_on_row : (o : ℕ) (f : HeapRow → HeapRow) → ((r : HeapRow) → (f r).object ≡ r.object) → (rows : HeapRows) → heap_objects (map (on_row o f) rows) ≡ heap_objects rows
objects_on_row o f keeps [] = refl
objects_on_row o f keeps (None ∷ rows) = objects_on_row o f keeps rows
objects_on_row o f keeps (Some r ∷ rows) = elim (cases_Bool (r.object.number == o)) [
  | inl is ↦ rw (is, keeps r, objects_on_row o f keeps rows) refl
  | inr isn't ↦ rw (isn't, objects_on_row o f keeps rows) refl
]

-- Behind what lists objects for the sweep: they are there still.
pub objects_with_leaving : (o : ℕ) (rows : HeapRows) → heap_objects (map (with_leaving o) rows) ≡ heap_objects rows
objects_with_leaving o [] = refl
objects_with_leaving o (None ∷ rows) = objects_with_leaving o rows
objects_with_leaving o (Some r ∷ rows) = ap (λ xs. r.object ∷ xs) (objects_with_leaving o rows)

pub objects_leaving_if : (b : Bool) (o : ℕ) (rows : HeapRows) → heap_objects (leaving_if b o rows) ≡ heap_objects rows
objects_leaving_if true o rows = objects_with_leaving o rows
objects_leaving_if false o rows = refl

-- Behind a new one.
pub objects_append : (rows : HeapRows) (r : HeapRow) → heap_objects (rows ++ Some r ∷ []) ≡ heap_objects rows ++ r.object ∷ []
objects_append rows r = filter_map-append object_in rows (Some r ∷ [])

-- Behind one that is taken out.
pub objects_unless : (o : ℕ) (rows : HeapRows) → heap_objects (map (unless o) rows) ≡ filter (λ x. not (x.number == o)) (heap_objects rows)
objects_unless o [] = refl
objects_unless o (None ∷ rows) = objects_unless o rows
objects_unless o (Some r ∷ rows) = elim (cases_Bool (r.object.number == o)) [
  | inl is ↦ rw (is, objects_unless o rows) refl
  | inr isn't ↦ rw (isn't, objects_unless o rows) refl
]

-- Behind all that pass a test of their rows, as the objects tell by their numbers; and the numbers of those that pass it.
abbrev pub unless_passing : (HeapRow → Bool) → Option HeapRow → Option HeapRow
unless_passing test None = None
unless_passing test (Some r) = if test r then None else Some r

abbrev pub passing_number : (HeapRow → Bool) → Option HeapRow → Option ℕ
passing_number test None = None
passing_number test (Some r) = if test r then Some r.object.number else None

abbrev pub Tells : (HeapRow → Bool) → (Object → Bool) → HeapRows → Type 0
Tells test told rows = (j : ℕ) (r : HeapRow) → slice_index_or rows j None ≡ Some r → told r.object ≡ test r

pub objects_unless_passing : (test : HeapRow → Bool) (told : Object → Bool) (rows : HeapRows) → Tells test told rows → heap_objects (map (unless_passing test) rows) ≡ filter (λ x. not (told x)) (heap_objects rows)
objects_unless_passing test told [] tells = refl
objects_unless_passing test told (None ∷ rows) tells = objects_unless_passing test told rows (λ j r is. tells (suc j) r is)
objects_unless_passing test told (Some r ∷ rows) tells =
    let same : told r.object ≡ test r = tells 0 r refl in
    let deeper = objects_unless_passing test told rows (λ j r is. tells (suc j) r is) in
    elim (cases_Bool (test r)) [
      | inl passes ↦ rw (same, passes, deeper) refl
      | inr fails ↦ rw (same, fails, deeper) refl
    ]

pub passing_numbers : (test : HeapRow → Bool) (told : Object → Bool) (rows : HeapRows) → Tells test told rows → filter_map (passing_number test) rows ≡ map (λ x. x.number) (filter told (heap_objects rows))
passing_numbers test told [] tells = refl
passing_numbers test told (None ∷ rows) tells = passing_numbers test told rows (λ j r is. tells (suc j) r is)
passing_numbers test told (Some r ∷ rows) tells =
    let same : told r.object ≡ test r = tells 0 r refl in
    let deeper = passing_numbers test told rows (λ j r is. tells (suc j) r is) in
    elim (cases_Bool (test r)) [
      | inl passes ↦ rw (same, passes, deeper) refl
      | inr fails ↦ rw (same, fails, deeper) refl
    ]

-- what a test says of the row of a number
abbrev pub test_at : (HeapRow → Bool) → HeapRows → ℕ → Bool
test_at test rows o = option_map_or test (row_of rows o) false

pub test_tells : (test : HeapRow → Bool) (rows : HeapRows) → IsNumbered rows → Tells test (λ x. test_at test rows x.number) rows
test_tells test rows numbered j r is =
    let e : row_of rows r.object.number ≡ Some r = ap (row_of rows) (numbered (suc j) r is) ∙ is in
    ap (λ row. option_map_or test row false) e

-- Behind a sweep, and the numbers that it frees.
pub same_map : (f g : Option HeapRow → Option HeapRow) (rows : HeapRows) → ((x : Option HeapRow) → f x ≡ g x) → map f rows ≡ map g rows
same_map f g [] same = refl
same_map f g (x ∷ rows) same = rw (same x, same_map f g rows same) refl

pub same_filter_map : (f g : Option HeapRow → Option ℕ) (rows : HeapRows) → ((x : Option HeapRow) → f x ≡ g x) → filter_map f rows ≡ filter_map g rows
same_filter_map f g [] same = refl
same_filter_map f g (x ∷ rows) same = rw (same x, same_filter_map f g rows same) refl

pub swept_is : (x : Option HeapRow) → swept_row x ≡ unless_passing (λ r. r.leaves) x
swept_is None = refl
swept_is (Some r) = refl

pub leaving_is : (x : Option HeapRow) → leaving_number x ≡ passing_number (λ r. r.leaves) x
leaving_is None = refl
leaving_is (Some r) = refl

pub objects_swept : (rows : HeapRows) → IsNumbered rows → heap_objects (swept_rows rows) ≡ filter (λ x. not (leaves_at rows x.number)) (heap_objects rows)
objects_swept rows numbered =
    ap heap_objects (same_map swept_row (unless_passing (λ r. r.leaves)) rows swept_is)
    ∙ objects_unless_passing (λ r. r.leaves) (λ x. leaves_at rows x.number) rows (test_tells (λ r. r.leaves) rows numbered)

pub leaving_numbers : (rows : HeapRows) → IsNumbered rows → leaving_in rows ≡ map (λ x. x.number) (filter (λ x. leaves_at rows x.number) (heap_objects rows))
leaving_numbers rows numbered =
    same_filter_map leaving_number (passing_number (λ r. r.leaves)) rows leaving_is
    ∙ passing_numbers (λ r. r.leaves) (λ x. leaves_at rows x.number) rows (test_tells (λ r. r.leaves) rows numbered)

-- Behind the end of an owner, and the numbers that it frees.
pub without_is : (all : HeapRows) (w : Owner) (x : Option HeapRow) → row_without all w x ≡ unless_passing (is_left all w) x
without_is all w None = refl
without_is all w (Some r) = refl

pub left_is : (all : HeapRows) (w : Owner) (x : Option HeapRow) → left_number all w x ≡ passing_number (is_left all w) x
left_is all w None = refl
left_is all w (Some r) = refl

abbrev pub is_left_of : HeapRows → Owner → Object → Bool
is_left_of rows w x = test_at (is_left rows w) rows x.number

pub objects_without : (rows : HeapRows) (w : Owner) → IsNumbered rows → heap_objects (rows_without rows w) ≡ filter (λ x. not (is_left_of rows w x)) (heap_objects rows)
objects_without rows w numbered =
    ap heap_objects (same_map (row_without rows w) (unless_passing (is_left rows w)) rows (without_is rows w))
    ∙ objects_unless_passing (is_left rows w) (is_left_of rows w) rows (test_tells (is_left rows w) rows numbered)

pub left_numbers : (rows : HeapRows) (w : Owner) → IsNumbered rows → left_by rows w ≡ map (λ x. x.number) (filter (is_left_of rows w) (heap_objects rows))
left_numbers rows w numbered =
    same_filter_map (left_number rows w) (passing_number (is_left rows w)) rows (left_is rows w)
    ∙ passing_numbers (is_left rows w) (is_left_of rows w) rows (test_tells (is_left rows w) rows numbered)

-- The row of a number, behind a change of each row.
pub row_of_map : (g : Option HeapRow → Option HeapRow) → g None ≡ None → (rows : HeapRows) (o : ℕ) → row_of (map g rows) o ≡ g (row_of rows o)
row_of_map g none rows zero = sym none
row_of_map g none rows (suc k) = subst (λ (d : Option HeapRow). slice_index_or (map g rows) k d ≡ g (slice_index_or rows k None)) none (get_or-map g rows k None)

pub numbered_map : (g : Option HeapRow → Option HeapRow) → g None ≡ None → ((x : Option HeapRow) (r : HeapRow) → g x ≡ Some r → (q : HeapRow) × (x ≡ Some q) × (r.object.number ≡ q.object.number)) → (rows : HeapRows) → IsNumbered rows → IsNumbered (map g rows)
numbered_map g none keeps rows numbered o r is =
    let k = keeps (row_of rows o) r (sym (row_of_map g none rows o) ∙ is) in
    k.2 ∙ numbered o k.0 k.1

-- The object that hangs in a cell.
abbrev pub is_hung_in : ℕ → ℕ → Object → Bool
is_hung_in o at x = hangs_in o at x.placement

pub record HangsAt (rows : HeapRows) (o at v : ℕ) : Type 0 where
  pub row : HeapRow
  pub is : row_of rows v ≡ Some row
  pub hangs : row.object.placement ≡ Hung o at

pub hangs_is : (o at : ℕ) (p : Placement) → hangs_in o at p ≡ true → p ≡ Hung o at
hangs_is o at (Root w) e = absurd cc
hangs_is o at (Hung parent place) e =
    let r = and_parts (parent == o) (place == at) e in
    let p = eqb-true parent o r.0 in
    let q = eqb-true place at r.1 in
    rw (p, q) refl

pub is_hangs : (o at : ℕ) (p : Placement) → p ≡ Hung o at → hangs_in o at p ≡ true
is_hangs o at p e = ap (hangs_in o at) e ∙ and_from (o == o) (at == at) (eq-eqb o o refl) (eq-eqb at at refl)

pub hung_there : (rows : HeapRows) (o at v : ℕ) → IsNumbered rows → hung_at rows o at ≡ Some v → HangsAt rows o at v
hung_there rows o at v numbered e = go (find (is_hung_in o at) (heap_objects rows)) refl e
  where
    go : (found : Option Object) → find (is_hung_in o at) (heap_objects rows) ≡ found → option_map (λ x. x.number) found ≡ Some v → HangsAt rows o at v
    go None is e = absurd cc
    go (Some x) is e =
        let r = found_row (is_hung_in o at) rows x numbered is in
        let number : x.number ≡ v = cc in
        record {
          row = r.row;
          is = ap (row_of rows) (sym number) ∙ r.is;
          hangs = ap (λ y. y.placement) r.object ∙ hangs_is o at x.placement (found_passes (is_hung_in o at) rows x is);
        }

pub hung_nowhere : (rows : HeapRows) (o at : ℕ) → hung_at rows o at ≡ None → (v : ℕ) (r : HeapRow) → row_of rows v ≡ Some r → r.object.placement ≡ Hung o at → ⊥
hung_nowhere rows o at e zero r is hangs = absurd cc
hung_nowhere rows o at e (suc k) r is hangs = go (find (is_hung_in o at) (heap_objects rows)) refl e
  where
    go : (found : Option Object) → find (is_hung_in o at) (heap_objects rows) ≡ found → option_map (λ x. x.number) found ≡ None → ⊥
    go None found e = both_ways (hangs_in o at r.object.placement) (none_passes (is_hung_in o at) rows found k r is) (is_hangs o at r.object.placement hangs)
    go (Some x) found e = absurd cc

-- what hangs in a cell alone is found there
pub hung_alone : (rows : HeapRows) (o at v : ℕ) (r : HeapRow) → IsNumbered rows → row_of rows v ≡ Some r → r.object.placement ≡ Hung o at
    → ((u : ℕ) (q : HeapRow) → row_of rows u ≡ Some q → q.object.placement ≡ Hung o at → u ≡ v) → hung_at rows o at ≡ Some v
hung_alone rows o at v r numbered is hangs alone = go (hung_at rows o at) refl
  where
    go : (found : Option ℕ) → hung_at rows o at ≡ found → hung_at rows o at ≡ Some v
    go None found = absurd (hung_nowhere rows o at found v r is hangs)
    go (Some u) found =
        let h = hung_there rows o at u numbered found in
        found ∙ ap Some (alone u h.row h.is h.hangs)
