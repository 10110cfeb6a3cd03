-- The rows of the heap, as the state sees their objects.
use Rattle.std.proofs.Common.{◌≡◌, ℕ, ◌==◌, true, false, find, Option, Some, None, is_some, refl, sym, ap, ◌∙◌}
use Rattle.std.specs.List.{list_any}
use Rattle.machine_defs.specs.declared.values.Owner.{Owner}
use Rattle.machine_defs.specs.State.{Object}
use Rattle.machine_defs.specs.Loans.{loans, object_of}
use Rattle.machine_defs.specs.Objects.{kinds_of, cells_in}
use Rattle.machine_defs.specs.Sound.{IsRoot}
use Rattle.rref_heap.specs.HeapValue.{HeapRow, HeapRows, row_of, object_in, heap_objects, is_there, cells_at, loans_at, nests_at, leaves_at, root_owner, owner_in, owner_at, is_rref, IsRoot as IsRootRow}
use Rattle.rref_heap.specs.Kept.{IsHeapOf}
use Rattle.rref_heap.proofs.Objects.{IsNumbered, object_found}
use Rattle.machine_steps.specs.declared.machine.Machine.TheInside.{Inside}
use Rattle.machine_steps.specs.Inside.{state_of, IsKept}

-- the row of an object that is found by its number
pub record RowAt (rows : HeapRows) (o : ℕ) (x : Object) : Type 0 where
  pub row : HeapRow
  pub is : row_of rows o ≡ Some row
  pub object : row.object ≡ x

pub row_at : (rows : HeapRows) → IsNumbered rows → (o : ℕ) (x : Object) → find (λ y. y.number == o) (heap_objects rows) ≡ Some x → RowAt rows o x
row_at rows numbered o x is = go (row_of rows o) refl
  where
    known : object_in (row_of rows o) ≡ Some x
    known = sym (object_found rows numbered o) ∙ is

    go : (found : Option HeapRow) → row_of rows o ≡ found → RowAt rows o x
    go None e = absurd (let h : object_in None ≡ Some x = rw e at known in cc)
    go (Some r) e = record { row = r; is = e; object = let h : Some r.object ≡ Some x = rw e at known in cc }

-- what the heap tells of a root
pub record RootSeen (w : Inside) (o : ℕ) (v : Owner) : Type 0 where
  pub object : Object
  pub here : object_of (state_of w) o ≡ Some object
  pub there : is_there w.heap.rows o ≡ true
  pub root : IsRootRow w.heap.rows o
  pub owner : root_owner w.heap.rows o ≡ Some v
  pub lent : loans_at w.heap.rows o ≡ loans (state_of w) o
  pub nests : nests_at w.heap.rows o ≡ list_any is_rref (kinds_of w.load (Some object))
  pub stays : leaves_at w.heap.rows o ≡ false
  pub cells : cells_at w.heap.rows o ≡ object.cells

module _ {w : Inside} (k : IsKept w) (heap : IsHeapOf w.heap) where
  pub root_seen : (o : ℕ) (v : Owner) → IsRoot (state_of w) o v → RootSeen w o v
  root_seen o v root =
      let r = row_at w.heap.rows heap.numbered o root.0 root.1 in
      let a = k.agrees o r.row r.is in
      let owned : owner_in (Some r.row) ≡ Some v = ap (λ x. owner_at x.placement) r.object ∙ ap owner_at root.2 in
      record {
        object = root.0;
        here = root.1;
        there = ap is_some r.is;
        root = ap (λ row. is_some (owner_in row)) r.is ∙ ap is_some owned;
        owner = ap owner_in r.is ∙ owned;
        lent = rw r.is a.lent;
        nests = rw r.is (a.nests ∙ ap (λ x. list_any is_rref (kinds_of w.load (Some x))) r.object);
        stays = rw r.is a.stays;
        cells = rw r.is (ap (λ x. x.cells) r.object);
      }

  pub cells_seen : (o : ℕ) → cells_at w.heap.rows o ≡ cells_in (object_of (state_of w) o)
  cells_seen o = ap cells_in (sym (object_found w.heap.rows heap.numbered o))
