-- The places of a heap, as contracts inside this crate see them.
use Rattle.std.specs.Prelude.{◌≡◌, ℕ, zero, suc, ◌+◌, ◌-◌, ◌==◌, List, length, map, Option, Some, None, Bool, true, false, not, slice_set, if◌then◌else◌}
use Rattle.std.specs.List.{slice_index_or}
use Rattle.std.specs.Option.{option_map, option_map_or}
use Rattle.machine_defs.specs.declared.values.Owner.{Owner}
use Rattle.machine_defs.specs.State.{Object, Placement, Root, Hung}
use Rattle.rref_heap.specs.declared.place.Place.{Place}
use Rattle.rref_heap.specs.declared.place.Hanging.{Hanging}
use Rattle.machine_defs.specs.Objects.{overwritten}
use Rattle.rref_heap.specs.HeapValue.{HeapRow, HeapRows}

-- an object with what hangs in its cells, 0 where nothing does, and the numbers of its neighbors
-- among its owner's roots
pub record Spot : Type 0 where
  pub number : ℕ
  pub ty : ℕ
  pub placement : Placement
  pub loans : ℕ
  pub leaves : Bool
  pub cells : List ℕ
  pub below : List ℕ
  pub next : ℕ
  pub prev : ℕ

abbrev pub Spots : Type 0
Spots = List (Option Spot)

abbrev pub placement_of : Owner → Option Hanging → Placement
placement_of w None = Root w
placement_of w (Some h) = Hung h.parent h.place

abbrev pub spot_of : Place → Spot
spot_of p = record {
  number = p.number;
  ty = p.ty;
  placement = placement_of p.owner p.hangs;
  loans = p.word.count;
  leaves = p.leaves;
  cells = p.cells.items;
  below = p.below.items;
  next = p.next;
  prev = p.prev;
}

abbrev pub spot_in : Option Place → Option Spot
spot_in place = option_map spot_of place

-- what is at a number
abbrev pub at : Spots → ℕ → Option Spot
at spots zero = None
at spots (suc k) = slice_index_or spots k None

-- each is at its number
abbrev pub Numbered : Spots → Type 0
Numbered spots = (n : ℕ) (p : Spot) → at spots n ≡ Some p → p.number ≡ n

-- the spot of a number changes, or goes
abbrev pub on_spot : ℕ → (Spot → Spot) → Option Spot → Option Spot
on_spot n change None = None
on_spot n change (Some p) = Some (if p.number == n then change p else p)

abbrev pub unless_spot : ℕ → Option Spot → Option Spot
unless_spot n None = None
unless_spot n (Some p) = if p.number == n then None else Some p

-- what callers of the heap see of it
abbrev pub object_of_spot : Spot → Object
object_of_spot p = record { number = p.number; ty = p.ty; placement = p.placement; cells = p.cells }

abbrev pub row_of_spot : Spot → HeapRow
row_of_spot p = record { object = object_of_spot p; loans = p.loans; nests = not (length p.below == 0); leaves = p.leaves }

abbrev pub row_at : Option Spot → Option HeapRow
row_at spot = option_map row_of_spot spot

abbrev pub rows_in : Spots → HeapRows
rows_in spots = map row_at spots

-- the changes
abbrev pub to_next : ℕ → Spot → Spot
to_next m p = record p { next = m }

abbrev pub to_prev : ℕ → Spot → Spot
to_prev m p = record p { prev = m }

abbrev pub to_owner : Owner → ℕ → Spot → Spot
to_owner w next p = record p { placement = Root w; next = next; prev = 0 }

abbrev pub to_cell : ℕ → ℕ → Spot → Spot
to_cell parent place p = record p { placement = Hung parent place; next = 0; prev = 0 }

abbrev pub to_below : ℕ → ℕ → Spot → Spot
to_below place v p = record p { below = slice_set p.below place v }

abbrev pub to_leave : Spot → Spot
to_leave p = record p { leaves = true }

abbrev pub one_more : Spot → Spot
one_more p = record p { loans = p.loans + 1 }

abbrev pub one_fewer : Spot → Spot
one_fewer p = record p { loans = p.loans - 1 }

abbrev pub written : ℕ → List ℕ → Spot → Spot
written from values p = record p { cells = overwritten from values p.cells }

abbrev pub to_cells : List ℕ → Spot → Spot
to_cells cells p = record p { cells = cells }

-- the spots, and how many more may be added without memory
pub record PlacesValue : Type 0 where
  pub spots : Spots
  pub spare : ℕ

-- what a look tells
abbrev pub width_of : Option Spot → ℕ
width_of spot = option_map_or (λ p. length p.below) spot 0

abbrev pub below_in : Option Spot → ℕ → ℕ
below_in spot place = option_map_or (λ p. slice_index_or p.below place 0) spot 0

abbrev pub stays_in : Option Spot → Bool
stays_in spot = option_map_or (λ p. not p.leaves) spot false

abbrev pub loans_in : Option Spot → ℕ
loans_in spot = option_map_or (λ p. p.loans) spot 0

abbrev pub next_in : Option Spot → ℕ
next_in spot = option_map_or (λ p. p.next) spot 0
