-- The rows of the objects of a heap, one place later.
use Rattle.std.proofs.Common.{◌≡◌, ℕ, zero, suc, ◌+◌, List, [], ◌∷◌, ◌++◌, map, take, Option, Some, None, refl, sym, ap, ◌∙◌, subst}
use Rattle.std.proofs.Math.Numerals.{suc-eq-add-one}
use Rattle.std.proofs.Math.Seq.{take-nil}
use Rattle.std.specs.List.{slice_index_or}
use Rattle.rl_defs.specs.declared.load.LoadRows.{LoadRows}
use Rattle.machine_defs.specs.State.{State}
use Rattle.machine_defs.specs.Loans.{loans}
use Rattle.rref_heap.specs.declared.heap.ObjectRow.{ObjectRow as Seen}
use Rattle.rref_heap.specs.HeapValue.{HeapRow, HeapRows, HeapValue, row_of, heap_objects}
use Rattle.rref_heap.specs.Kept.{IsHeapOf, object_row, row_told}
use Rattle.machine_steps.specs.Kept.{Agrees}
use Rattle.heap_report.specs.declared.report.ObjectRow.{ObjectRow}
use Rattle.heap_report.specs.Left as report

-- the objects up to a place where one is, and up to one where none is
objects_push : (rows : HeapRows) (k : ℕ) (r : HeapRow) → slice_index_or rows k None ≡ Some r → heap_objects (take (suc k) rows) ≡ heap_objects (take k rows) ++ r.object ∷ []
objects_push [] k r e = cc
objects_push (x ∷ rows) zero r e = rw e refl
objects_push (None ∷ rows) (suc k) r e = objects_push rows k r e
objects_push (Some q ∷ rows) (suc k) r e = ap (λ xs. q.object ∷ xs) (objects_push rows k r e)

objects_stay : (rows : HeapRows) (k : ℕ) → slice_index_or rows k None ≡ None → heap_objects (take (suc k) rows) ≡ heap_objects (take k rows)
objects_stay [] k e = rw (take-nil k) refl
objects_stay (x ∷ rows) zero e = rw e refl
objects_stay (None ∷ rows) (suc k) e = objects_stay rows k e
objects_stay (Some q ∷ rows) (suc k) e = ap (λ xs. q.object ∷ xs) (objects_stay rows k e)

-- what is kept of an object that was looked at
abbrev pub row_left : Seen → ObjectRow
row_left x = record { number = x.number; ty = x.ty; loans = x.loans }

-- it is the object's row in the state
left_is : (s : State) (o : ℕ) (r : HeapRow) → r.object.number ≡ o → r.loans ≡ loans s o → row_left (row_told r) ≡ report.row_of s r.object
left_is s o r number lent = rw (lent, number) refl

map-push : {A B : Type 0} (f : A → B) (xs : List A) (y : A) → map f (xs ++ y ∷ []) ≡ map f xs ++ f y ∷ []
map-push f [] y = refl
map-push f (x ∷ xs) y = ap (λ zs. f x ∷ zs) (map-push f xs y)

push : (L : LoadRows) (s : State) (v : HeapValue) (k : ℕ) (x : Seen) (items : List ObjectRow) → IsHeapOf v → Agrees L s v.rows → items ≡ map (report.row_of s) (heap_objects (take k v.rows)) → Some x ≡ object_row (row_of v.rows (suc k)) → items ++ row_left x ∷ [] ≡ map (report.row_of s) (heap_objects (take (suc k) v.rows))
push L s v k x items kept agrees before seen = go (row_of v.rows (suc k)) refl
  where
    go : (o : Option HeapRow) → row_of v.rows (suc k) ≡ o → items ++ row_left x ∷ [] ≡ map (report.row_of s) (heap_objects (take (suc k) v.rows))
    go None e = let h : Some x ≡ None = seen ∙ ap object_row e in cc
    go (Some r) e =
        let h : Some x ≡ Some (row_told r) = seen ∙ ap object_row e in
        let told : x ≡ row_told r = cc in
        let is : row_left x ≡ report.row_of s r.object = ap row_left told ∙ left_is s (suc k) r (kept.numbered (suc k) r e) (agrees (suc k) r e).lent in
        let more : map (report.row_of s) (heap_objects (take (suc k) v.rows)) ≡ map (report.row_of s) (heap_objects (take k v.rows)) ++ report.row_of s r.object ∷ [] =
        ap (map (report.row_of s)) (objects_push v.rows k r e) ∙ map-push (report.row_of s) (heap_objects (take k v.rows)) r.object in
        ap (λ xs. xs ++ row_left x ∷ []) before ∙ (ap (λ y. map (report.row_of s) (heap_objects (take k v.rows)) ++ y ∷ []) is ∙ sym more)

stay : (s : State) (v : HeapValue) (k : ℕ) (items : List ObjectRow) → items ≡ map (report.row_of s) (heap_objects (take k v.rows)) → None ≡ object_row (row_of v.rows (suc k)) → items ≡ map (report.row_of s) (heap_objects (take (suc k) v.rows))
stay s v k items before seen = go (row_of v.rows (suc k)) refl
  where
    go : (o : Option HeapRow) → row_of v.rows (suc k) ≡ o → items ≡ map (report.row_of s) (heap_objects (take (suc k) v.rows))
    go None e = before ∙ sym (ap (map (report.row_of s)) (objects_stay v.rows k e))
    go (Some r) e = let h : None ≡ Some (row_told r) = seen ∙ ap object_row e in cc

-- the rows up to a place where an object is, and up to one where none is
pub rows_push : (L : LoadRows) (s : State) (v : HeapValue) (k : ℕ) (x : Seen) (items : List ObjectRow) → IsHeapOf v → Agrees L s v.rows → items ≡ map (report.row_of s) (heap_objects (take k v.rows)) → Some x ≡ object_row (row_of v.rows (k + 1)) → items ++ row_left x ∷ [] ≡ map (report.row_of s) (heap_objects (take (k + 1) v.rows))
rows_push L s v k x items kept agrees before seen =
    subst (λ (n : ℕ). items ++ row_left x ∷ [] ≡ map (report.row_of s) (heap_objects (take n v.rows))) (suc-eq-add-one k) (push L s v k x items kept agrees before (seen ∙ ap (λ (n : ℕ). object_row (row_of v.rows n)) (sym (suc-eq-add-one k))))

pub rows_stay : (s : State) (v : HeapValue) (k : ℕ) (items : List ObjectRow) → items ≡ map (report.row_of s) (heap_objects (take k v.rows)) → None ≡ object_row (row_of v.rows (k + 1)) → items ≡ map (report.row_of s) (heap_objects (take (k + 1) v.rows))
rows_stay s v k items before seen =
    subst (λ (n : ℕ). items ≡ map (report.row_of s) (heap_objects (take n v.rows))) (suc-eq-add-one k) (stay s v k items before (seen ∙ ap (λ (n : ℕ). object_row (row_of v.rows n)) (sym (suc-eq-add-one k))))
