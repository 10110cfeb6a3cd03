-- The rows of a heap, of the spots that they come from.
use Rattle.std.proofs.Common.{◌≡◌, ℕ, zero, suc, ◌==◌, true, [], ◌∷◌, map, Option, Some, None, refl, sym, ap, ◌∙◌, inl, inr}
use Rattle.std.specs.List.{slice_index_or}
use Rattle.std.proofs.lemmas.Bool.{cases_Bool, eqb-true}
use Rattle.std.proofs.Math.ListN.{get_or-map}
use Rattle.rref_heap.specs.HeapValue.{HeapRow, row_of}
use Rattle.rref_heap.specs.Changing.{on_row}
use Rattle.rref_heap.specs.Spots.{Spot, Spots, at, Numbered, on_spot, row_of_spot, row_at, rows_in}
use Rattle.rref_heap.proofs.Spots.{same_some}

-- the row of a number is that of its spot
pub row_of_in : (spots : Spots) (o : ℕ) → row_of (rows_in spots) o ≡ row_at (at spots o)
row_of_in spots zero = refl
row_of_in spots (suc k) = get_or-map row_at spots k None

pub record SpotOf (spots : Spots) (o : ℕ) (r : HeapRow) : Type 0 where
  pub spot : Spot
  pub is : at spots o ≡ Some spot
  pub row : r ≡ row_of_spot spot

pub spot_at : (spots : Spots) (o : ℕ) (r : HeapRow) → row_of (rows_in spots) o ≡ Some r → SpotOf spots o r
spot_at spots o r e = go (at spots o) refl
  where
    go : (x : Option Spot) → at spots o ≡ x → SpotOf spots o r
    go None is = absurd (let x : None ≡ Some r = sym (row_of_in spots o ∙ ap row_at is) ∙ e in cc)
    go (Some p) is = record { spot = p; is = is; row = same_some (sym e ∙ (row_of_in spots o ∙ ap row_at is)) }

pub row_there : (spots : Spots) (o : ℕ) (p : Spot) → at spots o ≡ Some p → row_of (rows_in spots) o ≡ Some (row_of_spot p)
row_there spots o p is = row_of_in spots o ∙ ap row_at is

pub row_gone : (spots : Spots) (o : ℕ) → row_of (rows_in spots) o ≡ None → at spots o ≡ None
row_gone spots o e = go (at spots o) refl
  where
    go : (x : Option Spot) → at spots o ≡ x → at spots o ≡ None
    go None is = is
    go (Some p) is = absurd (let x : Some (row_of_spot p) ≡ None = sym (row_there spots o p is) ∙ e in cc)

-- the rows, where the spot of a number changes
pub rows_on_spot : (n : ℕ) (g : Spot → Spot) (f : HeapRow → HeapRow) (spots : Spots)
    → ((j : ℕ) (p : Spot) → slice_index_or spots j None ≡ Some p → (p.number == n) ≡ true → row_of_spot (g p) ≡ f (row_of_spot p))
    → rows_in (map (on_spot n g) spots) ≡ map (on_row n f) (rows_in spots)
rows_on_spot n g f [] same = refl
rows_on_spot n g f (None ∷ spots) same = ap (λ rows. None ∷ rows) (rows_on_spot n g f spots (λ j p is e. same (suc j) p is e))
rows_on_spot n g f (Some p ∷ spots) same =
    let deeper = rows_on_spot n g f spots (λ j q is e. same (suc j) q is e) in
    elim (cases_Bool (p.number == n)) [
      | inl e ↦ rw (e, deeper, same 0 p refl e) refl
      | inr e ↦ rw (e, deeper) refl
    ]

-- what holds of the spot at a number, holds of each in the list with that number
pub each_numbered : (spots : Spots) (n : ℕ) (P : Spot → Type 0) → Numbered spots → ((p : Spot) → at spots n ≡ Some p → P p)
    → (j : ℕ) (p : Spot) → slice_index_or spots j None ≡ Some p → (p.number == n) ≡ true → P p
each_numbered spots n P numbered here j p is e =
    let at_n : suc j ≡ n = sym (numbered (suc j) p is) ∙ eqb-true p.number n e in
    here p (ap (at spots) (sym at_n) ∙ is)
