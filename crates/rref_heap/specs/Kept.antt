-- What the type of a heap keeps.
use Rattle.std.specs.Prelude.{◌≡◌, ℕ, ◌<◌, Some, Option, None, true, false, length}
use Rattle.machine_defs.specs.State.{Root, Hung}
use Rattle.machine_defs.specs.declared.values.Owner.{Owner}
use Rattle.std.specs.Option.{option_map}
use Rattle.rref_heap.specs.declared.heap.ObjectRow.{ObjectRow}
use Rattle.rref_heap.specs.HeapValue.{HeapRow, HeapValue, HeapRows, row_of, MayOwn, IsRoot, owner_at}

-- What hangs, hangs in a cell of a root that is there, and leaves with it; or the root is gone and
-- what hung in it leaves.
pub record HangsWell (rows : HeapRows) (r : HeapRow) (parent place : ℕ) : Type 0 where
  pub low : r.nests ≡ false
  pub with_parent : (q : HeapRow) → row_of rows parent ≡ Some q → (q.nests ≡ true) × (place < length q.object.cells) × (r.leaves ≡ q.leaves)
  pub without_parent : row_of rows parent ≡ None → r.leaves ≡ true

pub record IsHeapOf (v : HeapValue) : Type 0 where
  -- each row is that of the object with its number
  pub numbered : (o : ℕ) (r : HeapRow) → row_of v.rows o ≡ Some r → r.object.number ≡ o
  -- each root's owner may own objects
  pub owned : (o : ℕ) (r : HeapRow) (w : Owner) → row_of v.rows o ≡ Some r → r.object.placement ≡ Root w → MayOwn v w
  pub hung : (o parent place : ℕ) (r : HeapRow) → row_of v.rows o ≡ Some r → r.object.placement ≡ Hung parent place → HangsWell v.rows r parent place
  -- a cell holds one object at most
  pub alone : (o u parent place : ℕ) (r q : HeapRow) → row_of v.rows o ≡ Some r → row_of v.rows u ≡ Some q → r.object.placement ≡ Hung parent place → q.object.placement ≡ Hung parent place → o ≡ u
  -- a root that others may hang in doesn't hang itself
  pub roots : (o : ℕ) (r : HeapRow) → row_of v.rows o ≡ Some r → r.nests ≡ true → IsRoot v.rows o

-- what a look at an object tells
abbrev pub row_told : HeapRow → ObjectRow
row_told r = record { number = r.object.number; ty = r.object.ty; owner = owner_at r.object.placement; loans = r.loans }

abbrev pub object_row : Option HeapRow → Option ObjectRow
object_row row = option_map row_told row
