-- What holds of the parts of a heap.
use Rattle.std.specs.Prelude.{◌≡◌, ℕ, ◌+◌, ◌≤◌, ◌<◌, ◌==◌, ◌++◌, List, map, [], ◌∷◌, length, Option, Some, None, Bool, true, false, if◌then◌else◌, not, replicate, ⊤}
use Rattle.std.specs.List.{slice_index_or, list_any}
use Rattle.std.specs.Option.{option_map, option_map_or}
use Rattle.rl_defs.specs.declared.tables.Kind.{Kind}
use Rattle.machine_defs.specs.Arguments.{has}
use Rattle.machine_defs.specs.State.{Placement, Root, Hung}
use Rattle.rref_heap.specs.declared.heap.Ready.{Ready}
use Rattle.rref_heap.specs.HeapValue.{HeapRows, Room, heap_objects, room_of, is_rref}
use Rattle.machine_defs.specs.declared.values.Owner.{Owner}
use Rattle.rref_heap.specs.declared.store.Store.{Store}
use Rattle.rref_heap.specs.Spots.{Spot, Spots, at, Numbered, row_of_spot, rows_in, on_spot, to_next, to_prev, to_owner, to_leave}
use Rattle.rref_heap.specs.Changing.{hangs_below, unless}
use Rattle.rref_heap.specs.Links.{Links, first_in, first_after, with_first}

-- no number stands twice
abbrev pub Distinct : List ℕ → Type 0
Distinct [] = ⊤
Distinct (x ∷ xs) = (has xs x ≡ false) × Distinct xs

-- how an object hangs and what hangs in it: its cell, whether it leaves, the numbers of what hangs
-- in its cells, how many cells it has
pub record Cell : Type 0 where
  pub parent : ℕ
  pub place : ℕ

pub record Nest : Type 0 where
  pub hung : Option Cell
  pub leaves : Bool
  pub below : List ℕ
  pub width : ℕ

abbrev pub cell_of : Placement → Option Cell
cell_of (Root w) = None
cell_of (Hung parent place) = Some (record { parent = parent; place = place })

abbrev pub nest_of : Spot → Nest
nest_of p = record { hung = cell_of p.placement; leaves = p.leaves; below = p.below; width = length p.cells }

abbrev pub nests_in : Spots → ℕ → Option Nest
nests_in spots n = option_map nest_of (at spots n)

abbrev pub leaves_in : Option Nest → Bool
leaves_in nest = option_map_or (λ p. p.leaves) nest false

-- the list names those that leave, each once
pub record IsListing (N : ℕ → Option Nest) (numbers : List ℕ) : Type 0 where
  pub same : (n : ℕ) → has numbers n ≡ leaves_in (N n)
  pub once : Distinct numbers

-- What hangs in a cell of an object: the object's cell names it, and it leaves with the object.
-- Where the object is gone, it leaves.
pub record Hanged (N : ℕ → Option Nest) (c : Cell) (n : ℕ) (p : Nest) : Type 0 where
  pub low : p.below ≡ []
  pub in_parent : (q : Nest) → N c.parent ≡ Some q → (slice_index_or q.below c.place 0 ≡ n) × (c.place < length q.below) × (p.leaves ≡ q.leaves)
  pub alone : N c.parent ≡ None → p.leaves ≡ true

-- What a cell of an object names hangs there. Of an object that leaves it may be gone.
pub record Held (N : ℕ → Option Nest) (n place v : ℕ) (q : Nest) : Type 0 where
  pub there : (p : Nest) → N v ≡ Some p → p.hung ≡ Some (record { parent = n; place = place })
  pub gone : N v ≡ None → q.leaves ≡ true

pub record IsNested (N : ℕ → Option Nest) (top : ℕ) : Type 0 where
  pub hangs : (n : ℕ) (p : Nest) (c : Cell) → N n ≡ Some p → p.hung ≡ Some c → Hanged N c n p
  pub holds : (n place v : ℕ) (q : Nest) → N n ≡ Some q → slice_index_or q.below place 0 ≡ v → 0 < v → Held N n place v q
  pub wide : (n : ℕ) (p : Nest) → N n ≡ Some p → 0 < length p.below → length p.below ≡ p.width
  pub parents : (n : ℕ) (p : Nest) (c : Cell) → N n ≡ Some p → p.hung ≡ Some c → c.parent ≤ top
  pub past : (n place v : ℕ) (q : Nest) → N n ≡ Some q → slice_index_or q.below place 0 ≡ v → v ≤ top
  -- a cell holds one object at most, though its object may be gone
  pub alone : (n u : ℕ) (p q : Nest) (c : Cell) → N n ≡ Some p → N u ≡ Some q → p.hung ≡ Some c → q.hung ≡ Some c → n ≡ u

-- all of it
pub record IsStore (s : Store) : Type 0 where
  pub numbered : Numbered s.places.spots
  pub links : Links s.places.spots s.firsts
  pub nested : IsNested (nests_in s.places.spots) (length s.places.spots)
  pub listed : IsListing (nests_in s.places.spots) s.listing.numbers
  pub count : s.live ≡ length (heap_objects (rows_in s.places.spots))
  pub room : s.live ≤ length s.listing.numbers + s.listing.spare

-- what has to hold where an object is listed
pub record Listable (s : Store) : Type 0 where
  pub numbered : Numbered s.places.spots
  pub listed : IsListing (nests_in s.places.spots) s.listing.numbers
  pub room : length (heap_objects (rows_in s.places.spots)) ≤ length s.listing.numbers + s.listing.spare

-- Some have been listed.
pub record Lists (s z : Store) (spots : Spots) : Type 0 where
  pub places : z.places ≡ record { spots = spots; spare = s.places.spare }
  pub firsts : z.firsts ≡ s.firsts
  pub live : z.live ≡ s.live
  pub listable : Listable z
  pub same : length z.listing.numbers + z.listing.spare ≡ length s.listing.numbers + s.listing.spare

-- what hangs in an object leaves
abbrev pub if_below : ℕ → Option Spot → Option Spot
if_below o None = None
if_below o (Some p) = Some (if hangs_below o p.placement then to_leave p else p)

-- A store has become another, which is seen as these rows, with the same room and at most as many
-- objects.
pub record Becomes (s z : Store) (rows : HeapRows) : Type 0 where
  pub store : IsStore z
  pub seen : rows_in z.places.spots ≡ rows
  pub spare : z.places.spare ≡ s.places.spare
  pub clients : length z.firsts.clients ≡ length s.firsts.clients
  pub instances : length z.firsts.instances ≡ length s.firsts.instances
  pub fewer : z.live ≤ s.live
  pub room : length z.listing.numbers + z.listing.spare ≡ length s.listing.numbers + s.listing.spare

-- The object that is listed last has been taken out, with its number. Where none is listed, all is
-- as before.
abbrev pub TakesLast : Store → Store → Option ℕ → Type 0
TakesLast s z None = (z ≡ s) × (s.listing.numbers ≡ [])
TakesLast s z (Some o) = Becomes s z (map (unless o) (rows_in s.places.spots)) × (s.listing.numbers ≡ z.listing.numbers ++ o ∷ [])

-- a root is linked no more: its neighbors lead to one another
abbrev pub without_links : Store → Owner → ℕ → ℕ → Store
without_links s w prev next = record s {
  places = record s.places { spots = map (on_spot next (to_prev prev)) (map (on_spot prev (to_next next)) s.places.spots) };
  firsts = first_after s.firsts w prev next;
}

-- an object is a root of this owner, in front of the others
abbrev pub linked_first : Store → ℕ → Owner → Store
linked_first s o w = record s {
  places = record s.places { spots = map (on_spot (first_in s.firsts w) (to_prev o)) (map (on_spot o (to_owner w (first_in s.firsts w))) s.places.spots) };
  firsts = with_first s.firsts w o;
}

abbrev pub with_spots : Store → Spots → Store
with_spots s spots = record s { places = record s.places { spots = spots } }

-- the room that is reserved, and that what an object needs beside its cells is reserved with them
abbrev pub room_of_ready : Ready → Room
room_of_ready r = record { cells = length r.cells.items; nests = not (length r.below.items == 0) }

abbrev pub room_in : Option Ready → Option Room
room_in ready = option_map room_of_ready ready

pub record IsReady (r : Ready) (s : Store) : Type 0 where
  pub cells : r.cells.items ≡ replicate (length r.cells.items) 0
  pub below : r.below.items ≡ replicate (length r.below.items) 0
  pub wide : 0 < length r.below.items → length r.below.items ≡ length r.cells.items
  pub place : 0 < s.places.spare
  pub number : s.live < length s.listing.numbers + s.listing.spare

abbrev pub RoomsFor : Option Ready → Store → Type 0
RoomsFor None s = ⊤
RoomsFor (Some r) s = IsReady r s

-- in how many cells of an object with cells of these kinds others may hang, where it is 0 or all
abbrev pub width_for : List Kind → ℕ
width_for kinds = if list_any is_rref kinds then length kinds else 0

-- room for an object with cells of these kinds
pub record IsReadyFor (r : Ready) (kinds : List Kind) : Type 0 where
  pub cells : r.cells.items ≡ replicate (length kinds) 0
  pub below : r.below.items ≡ replicate (length r.below.items) 0
  pub wide : 0 < length r.below.items → length r.below.items ≡ length r.cells.items
  pub room : room_of_ready r ≡ room_of kinds

-- an object that was made, before its owner's other roots
abbrev pub new_spot : ℕ → ℕ → Owner → List ℕ → List ℕ → ℕ → Spot
new_spot o ty w cells below next = record { number = o; ty = ty; placement = Root w; loans = 0; leaves = false; cells = cells; below = below; next = next; prev = 0 }

pub record Makes (s z : Store) (w : Owner) (p : Spot) : Type 0 where
  pub store : IsStore z
  pub seen : rows_in z.places.spots ≡ rows_in s.places.spots ++ Some (row_of_spot p) ∷ []
  pub clients : length z.firsts.clients ≡ length s.firsts.clients
  pub instances : length z.firsts.instances ≡ length s.firsts.instances
