-- The end of an owner: what is listed and then swept is what the owner leaves behind.
use Rattle.std.proofs.Common.{◌≡◌, ℕ, zero, suc, ◌∷◌, inl, inr, false, [], map, Some, None, refl, sym, ap, ◌∙◌, subst}
use Rattle.std.specs.List.{slice_index_or, filter_map}
use Rattle.std.proofs.lemmas.Bool.{cases_Bool}
use Rattle.machine_defs.specs.declared.values.Owner.{Owner}
use Rattle.rref_heap.specs.HeapValue.{HeapRow, HeapRows}
use Rattle.rref_heap.specs.declared.store.Store.{Store}
use Rattle.rref_heap.specs.Spots.{rows_in}
use Rattle.rref_heap.specs.Store.{Becomes}
use Rattle.rref_heap.proofs.HeapSteps.{becomes_over}
use Rattle.rref_heap.specs.Leaving.{swept_row, swept_rows, leaving_number, leaving_in, is_left, row_without, rows_without, left_number, left_by, listed_row, listed_rows}

-- no row leaves
abbrev pub Stay : HeapRows → Type 0
Stay rows = (j : ℕ) (r : HeapRow) → slice_index_or rows j None ≡ Some r → r.leaves ≡ false

pub none_leaves : (rows : HeapRows) → leaving_in rows ≡ [] → Stay rows
none_leaves [] none j r is = absurd cc
none_leaves (None ∷ rows) none zero r is = absurd cc
none_leaves (None ∷ rows) none (suc j) r is = none_leaves rows none j r is
none_leaves (Some q ∷ rows) none zero r is = elim (cases_Bool q.leaves) [
  | inl e ↦ absurd (let x : q.object.number ∷ leaving_in rows ≡ [] = rw e at none in cc)
  | inr e ↦ (let same : q ≡ r = cc in ap (λ r. r.leaves) (sym same) ∙ e)
]
none_leaves (Some q ∷ rows) none (suc j) r is = elim (cases_Bool q.leaves) [
  | inl e ↦ absurd (let x : q.object.number ∷ leaving_in rows ≡ [] = rw e at none in cc)
  | inr e ↦ none_leaves rows (rw e at none) j r is
]

pub swept_listed : (all : HeapRows) (w : Owner) (rows : HeapRows) → Stay rows → map swept_row (map (listed_row all w) rows) ≡ map (row_without all w) rows
swept_listed all w [] stay = refl
swept_listed all w (None ∷ rows) stay = ap (λ rest. None ∷ rest) (swept_listed all w rows (λ j r is. stay (suc j) r is))
swept_listed all w (Some r ∷ rows) stay =
    let deeper = swept_listed all w rows (λ j r is. stay (suc j) r is) in
    let stays = stay 0 r refl in
    elim (cases_Bool (is_left all w r)) [
      | inl e ↦ rw (e, deeper) refl
      | inr e ↦ rw (e, stays, deeper) refl
    ]

pub leaving_listed : (all : HeapRows) (w : Owner) (rows : HeapRows) → Stay rows → filter_map leaving_number (map (listed_row all w) rows) ≡ filter_map (left_number all w) rows
leaving_listed all w [] stay = refl
leaving_listed all w (None ∷ rows) stay = leaving_listed all w rows (λ j r is. stay (suc j) r is)
leaving_listed all w (Some r ∷ rows) stay =
    let deeper = leaving_listed all w rows (λ j r is. stay (suc j) r is) in
    let stays = stay 0 r refl in
    elim (cases_Bool (is_left all w r)) [
      | inl e ↦ rw (e, deeper) refl
      | inr e ↦ rw (e, stays, deeper) refl
    ]

pub swept_left : (rows : HeapRows) (w : Owner) → leaving_in rows ≡ [] → swept_rows (listed_rows rows w) ≡ rows_without rows w
swept_left rows w none = swept_listed rows w rows (none_leaves rows none)

pub leaving_left : (rows : HeapRows) (w : Owner) → leaving_in rows ≡ [] → leaving_in (listed_rows rows w) ≡ left_by rows w
leaving_left rows w none = leaving_listed rows w rows (none_leaves rows none)

-- a store behind the end of an owner
pub owner_ended : (s z y : Store) (w : Owner) → leaving_in (rows_in s.places.spots) ≡ [] → Becomes s z (listed_rows (rows_in s.places.spots) w) → Becomes z y (swept_rows (rows_in z.places.spots)) → Becomes s y (rows_without (rows_in s.places.spots) w)
owner_ended s z y w none a b = subst (λ (r : HeapRows). Becomes s y r) (swept_left (rows_in s.places.spots) w none) (becomes_over s z y (listed_rows (rows_in s.places.spots) w) swept_rows a b)

pub owner_leaving : (s z : Store) (w : Owner) → leaving_in (rows_in s.places.spots) ≡ [] → Becomes s z (listed_rows (rows_in s.places.spots) w) → leaving_in (rows_in z.places.spots) ≡ left_by (rows_in s.places.spots) w
owner_leaving s z w none a = ap leaving_in a.seen ∙ leaving_left (rows_in s.places.spots) w none
