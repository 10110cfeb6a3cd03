-- What contracts see of a heap.
use Rattle.std.specs.Prelude.{◌≡◌, ℕ, zero, suc, ◌<◌, List, [], length, Option, Some, None, Bool, true, false, is_some, find}
use Rattle.std.specs.List.{slice_index_or, filter_map, list_any}
use Rattle.std.specs.Option.{option_map, option_map_or}
use Rattle.rl_defs.specs.declared.tables.Kind.{Kind}
use Rattle.rl_defs.specs.declared.tables.Kind.TheVariants as kind
use Rattle.machine_defs.specs.declared.values.Owner.{Owner}
use Rattle.machine_defs.specs.declared.values.Owner.TheVariants as owner
use Rattle.machine_defs.specs.State.{Object, Placement, Root, Hung}
use Rattle.machine_defs.specs.Objects.{hangs_in, cells_in}

-- a live object: itself, how often it is lent, whether others may hang in it, whether the next
-- sweep takes it
pub record HeapRow : Type 0 where
  pub object : Object
  pub loans : ℕ
  pub nests : Bool
  pub leaves : Bool

-- the heap by numbers, from 1: the object with each number, if it is there
abbrev pub HeapRows : Type 0
HeapRows = List (Option HeapRow)

-- the room that an object needs: the count of its cells, and whether some of them are for an `RRef`
pub record Room : Type 0 where
  pub cells : ℕ
  pub nests : Bool

-- The objects, the room that is reserved for one more, and how many clients and instances may own
-- objects: those with a number below the count.
pub record HeapValue : Type 0 where
  pub rows : HeapRows
  pub ready : Option Room
  pub clients : ℕ
  pub instances : ℕ

abbrev pub empty_heap : HeapValue
empty_heap = record { rows = []; ready = None; clients = 0; instances = 0 }

-- the row of the object with a number
abbrev pub row_of : HeapRows → ℕ → Option HeapRow
row_of rows zero = None
row_of rows (suc k) = slice_index_or rows k None

abbrev pub is_there : HeapRows → ℕ → Bool
is_there rows o = is_some (row_of rows o)

-- the object itself, and the live objects by rising number
abbrev pub object_in : Option HeapRow → Option Object
object_in row = option_map (λ r. r.object) row

abbrev pub heap_objects : HeapRows → List Object
heap_objects rows = filter_map object_in rows

abbrev pub cells_at : HeapRows → ℕ → List ℕ
cells_at rows o = cells_in (object_in (row_of rows o))

abbrev pub loans_at : HeapRows → ℕ → ℕ
loans_at rows o = option_map_or (λ r. r.loans) (row_of rows o) 0

abbrev pub nests_at : HeapRows → ℕ → Bool
nests_at rows o = option_map_or (λ r. r.nests) (row_of rows o) false

abbrev pub leaves_at : HeapRows → ℕ → Bool
leaves_at rows o = option_map_or (λ r. r.leaves) (row_of rows o) false

-- the owner of a root
abbrev pub owner_at : Placement → Option Owner
owner_at (Root w) = Some w
owner_at (Hung parent place) = None

abbrev pub owner_in : Option HeapRow → Option Owner
owner_in None = None
owner_in (Some r) = owner_at r.object.placement

abbrev pub root_owner : HeapRows → ℕ → Option Owner
root_owner rows o = owner_in (row_of rows o)

-- the object is there and is a root
abbrev pub IsRoot : HeapRows → ℕ → Type 0
IsRoot rows o = is_some (root_owner rows o) ≡ true

-- the object that hangs in a cell of an object
abbrev pub hung_at : HeapRows → ℕ → ℕ → Option ℕ
hung_at rows o at = option_map (λ x. x.number) (find (λ x. hangs_in o at x.placement) (heap_objects rows))

-- objects may be given to this owner
abbrev pub MayOwn : HeapValue → Owner → Type 0
MayOwn v (owner.Client c) = c < v.clients
MayOwn v (owner.Instance i) = i < v.instances

-- the cells of a struct that are for an `RRef`
abbrev pub is_rref : Kind → Bool
is_rref (kind.Own s) = true
is_rref _ = false

abbrev pub room_of : List Kind → Room
room_of kinds = record { cells = length kinds; nests = list_any is_rref kinds }
