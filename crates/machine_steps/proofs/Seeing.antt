-- What the heap tells of an object is what a frame sees of it.
use Rattle.std.proofs.Common.{◌≡◌, ℕ, ◌<◌, ◌≤◌, ◌==◌, true, false, find, Option, Some, None, is_some, slice_get, refl, sym, ap, ◌∙◌, arith, true≢false}
use Rattle.rl_defs.specs.declared.tables.Kind.{Kind}
use Rattle.rl_defs.specs.declared.load.LoadRows.{LoadRows}
use Rattle.rl_defs.specs.CodeNames.{cells_of}
use Rattle.machine_defs.specs.State.{State}
use Rattle.machine_defs.specs.Objects.{kinds_of, cells_in, if_number, number_cell}
use Rattle.machine_defs.specs.Loans.{object_of}
use Rattle.rref_heap.specs.HeapValue.{HeapRow, HeapRows, HeapValue, row_of, object_in, heap_objects, cells_at, hung_at, is_there, leaves_at}
use Rattle.rref_heap.specs.Kept.{HangsWell, IsHeapOf, object_row}
use Rattle.rref_heap.specs.declared.heap.ObjectRow.{ObjectRow}
use Rattle.rref_heap.proofs.Objects.{IsNumbered, object_found, hung_there}
use Rattle.machine_steps.specs.Sights.{IsAtRest}

-- ---- number cells

module _ (L : LoadRows) (s : State) (rows : HeapRows) (numbered : IsNumbered rows) (objects : s.objects ≡ heap_objects rows) (o at : ℕ) where
  object_here : object_of s o ≡ object_in (row_of rows o)
  object_here = ap (find (λ x. x.number == o)) objects ∙ object_found rows numbered o

  cell_here : number_cell L s o at ≡ if_number (slice_get (kinds_of L (object_in (row_of rows o))) at) (slice_get (cells_at rows o) at)
  cell_here = ap (λ x. if_number (slice_get (kinds_of L x) at) (slice_get (cells_in x) at)) object_here

  pub cell_gone : object_row (row_of rows o) ≡ None → number_cell L s o at ≡ None
  cell_gone gone = cell_here ∙ go (row_of rows o) gone
    where
      go : (r : Option HeapRow) → object_row r ≡ None → if_number (slice_get (kinds_of L (object_in r)) at) (slice_get (cells_in (object_in r)) at) ≡ None
      go None is = refl
      go (Some r) is = absurd cc

  -- the kind of the cell, by the struct that the heap tells
  pub cell_of_kind : (told : ObjectRow) → object_row (row_of rows o) ≡ Some told → (k : Option Kind) → slice_get (cells_of L.tables told.ty) at ≡ k → number_cell L s o at ≡ if_number k (slice_get (cells_at rows o) at)
  cell_of_kind told is k here = cell_here ∙ (ap (λ x. if_number x (slice_get (cells_at rows o) at)) (go (row_of rows o) is) ∙ ap (λ x. if_number x (slice_get (cells_at rows o) at)) here)
    where
      go : (r : Option HeapRow) → object_row r ≡ Some told → slice_get (kinds_of L (object_in r)) at ≡ slice_get (cells_of L.tables told.ty) at
      go None is = absurd cc
      go (Some r) is = (let same : r.object.ty ≡ told.ty = cc in ap (λ ty. slice_get (cells_of L.tables ty) at) same)

  pub there : (told : ObjectRow) → object_row (row_of rows o) ≡ Some told → is_there rows o ≡ true
  there told is = go (row_of rows o) is
    where
      go : (r : Option HeapRow) → object_row r ≡ Some told → is_some r ≡ true
      go None is = absurd cc
      go (Some r) is = refl

-- ---- what hangs

module _ (v : HeapValue) (k : IsHeapOf v) (rest : IsAtRest v.rows) (o at : ℕ) where
  -- what hangs in a cell hangs in an object that is there, below place 512
  hangs : (u : ℕ) → hung_at v.rows o at ≡ Some u → (is_there v.rows o ≡ true) × (at < 512)
  hangs u is =
      let h = hung_there v.rows o at u k.numbered is in
      go (k.hung u o at h.row h.is h.hangs) (rest u h.row h.is).stays (row_of v.rows o) refl
    where
      go : {r : HeapRow} → HangsWell v.rows r o at → r.leaves ≡ false → (q : Option HeapRow) → row_of v.rows o ≡ q → (is_some q ≡ true) × (at < 512)
      go well stays None none = absurd (true≢false (sym (well.without_parent none) ∙ stays))
      go well stays (Some q) here = (refl, (let w = well.with_parent q here in let few = (rest o q here).few in omega (arith, w.1, few)))

  none_or : (x : Option ℕ) → hung_at v.rows o at ≡ x → ((u : ℕ) → hung_at v.rows o at ≡ Some u → ⊥) → hung_at v.rows o at ≡ None
  none_or None is never = is
  none_or (Some u) is never = absurd (never u is)

  pub hung_past : 512 ≤ at → hung_at v.rows o at ≡ None
  hung_past past = none_or (hung_at v.rows o at) refl (λ u is. (let h = hangs u is in omega (arith, h.1, past)))

  pub hung_gone : is_there v.rows o ≡ false → hung_at v.rows o at ≡ None
  hung_gone gone = none_or (hung_at v.rows o at) refl (λ u is. true≢false (sym (hangs u is).0 ∙ gone))

pub stays_there : (rows : HeapRows) → IsAtRest rows → (o : ℕ) → leaves_at rows o ≡ false
stays_there rows rest o = go (row_of rows o) refl
  where
    go : (x : Option HeapRow) → row_of rows o ≡ x → leaves_at rows o ≡ false
    go None is = rw is refl
    go (Some r) is = rw is (rest o r is).stays
