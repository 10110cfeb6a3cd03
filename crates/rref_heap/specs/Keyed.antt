-- The keys by number that find the places of a heap.
use Rattle.std.specs.Prelude.{◌≡◌, ℕ, zero, suc, ◌+◌, ◌≤◌, List, length, Option, Some, None, is_some, count_by}
use Rattle.std.specs.List.{slice_index_or}
use Rattle.slab.specs.Slab.{Slab, get, slab_len, HasRoomFor}
use Rattle.rref_heap.specs.Spots.{Spot, spot_in}
use Rattle.rref_heap.specs.declared.place.Place.{Place}

-- the key of a number, none where its object is gone
abbrev pub key_at : List (Option ℕ) → ℕ → Option ℕ
key_at keys zero = None
key_at keys (suc k) = slice_index_or keys k None

-- the spot of the place under a key
abbrev pub spot_under : Slab Place → Option ℕ → Option Spot
spot_under places None = None
spot_under places (Some key) = spot_in (get places key)

-- the key of each number leads to a place that has this number, there are no other places, and so
-- much room is reserved for more keys and more places
pub record IsKeyed (keys : List (Option ℕ)) (capacity : ℕ) (places : Slab Place) (room : ℕ) : Type 0 where
  pub leads : (n key : ℕ) → key_at keys n ≡ Some key → (p : Place) × (get places key ≡ Some p) × (p.number ≡ n)
  pub live : slab_len places ≡ count_by is_some keys
  pub room_for_keys : length keys + room ≤ capacity
  pub room_for_places : HasRoomFor places room
