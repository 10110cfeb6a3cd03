-- The objects of the shared heap: their cells, what hangs in them, how they come, change and go.
use Rattle.std.specs.Prelude.{ℕ, ◌+◌, ◌-◌, ◌==◌, ◌&&◌, [], ◌∷◌, ◌++◌, List, Option, Some, None, slice_get, Bool, false, find, length, replicate, not, filter, map, take, drop, if◌then◌else◌}
use Rattle.std.specs.Option.{option_map, option_map_or}
use Rattle.rl_defs.specs.declared.tables.Kind.TheVariants as kind
use Rattle.rl_defs.specs.declared.values.Value.TheVariants as value
use Rattle.rl_defs.specs.declared.tables.Kind.{Kind}
use Rattle.rl_defs.specs.declared.load.LoadRows.{LoadRows}
use Rattle.rl_defs.specs.declared.values.Value.{Value}
use Rattle.machine_defs.specs.declared.values.Owner.{Owner}
use Rattle.rl_defs.specs.CodeNames.{cells_of}
use Rattle.machine_defs.specs.State.{Object, State, Placement, Root, Hung}
use Rattle.machine_defs.specs.Loans.{object_of}
use Rattle.machine_defs.specs.Arguments.{has}

-- the kinds of an object's cells, and what its number cells hold
abbrev pub kinds_of : LoadRows → Option Object → List Kind
kinds_of L x = option_map_or (λ x. cells_of L.tables x.ty) x []

abbrev pub cells_in : Option Object → List ℕ
cells_in x = option_map_or (λ x. x.cells) x []

abbrev pub if_number : Option Kind → Option ℕ → Option ℕ
if_number (Some (kind.Num w)) cell = cell
if_number _ cell = None

-- the number in a cell of an object, None where there is no such cell or it is for an `RRef`
abbrev pub number_cell : LoadRows → State → ℕ → ℕ → Option ℕ
number_cell L s o at = if_number (slice_get (kinds_of L (object_of s o)) at) (slice_get (cells_in (object_of s o)) at)

-- the object that hangs in a cell of an object
abbrev pub hangs_in : ℕ → ℕ → Placement → Bool
hangs_in o at (Root w) = false
hangs_in o at (Hung parent place) = (parent == o) && (place == at)

abbrev pub hung_in : State → ℕ → ℕ → Option ℕ
hung_in s o at = option_map (λ x. x.number) (find (λ x. hangs_in o at x.placement) s.objects)

-- What `show` lists: the cells up to the last that isn't 0. An empty cell for an `RRef` is 0, a
-- full one is the object that hangs in it.
abbrev pub cell_value : Option ℕ → ℕ → Value
cell_value None n = value.Num n
cell_value (Some v) n = value.Obj v

abbrev pub is_zero : Value → Bool
is_zero (value.Num n) = n == 0
is_zero _ = false

abbrev pub listed : Value → List Value → List Value
listed v [] = if is_zero v then [] else v ∷ []
listed v (w ∷ others) = v ∷ (w ∷ others)

abbrev pub listed_from : State → ℕ → ℕ → List ℕ → List Value
listed_from s o at [] = []
listed_from s o at (n ∷ cells) = listed (cell_value (hung_in s o at) n) (listed_from s o (at + 1) cells)

abbrev pub shown : State → ℕ → List Value
shown s o = listed_from s o 0 (cells_in (object_of s o))

-- a new object: its first cells have these values, and the others are 0 or empty
abbrev pub fresh_object : LoadRows → ℕ → ℕ → Owner → List ℕ → Object
fresh_object L o ty w values = record {
  number = o;
  ty = ty;
  placement = Root w;
  cells = values ++ replicate (length (cells_of L.tables ty) - length values) 0;
}

abbrev pub with_new : LoadRows → ℕ → Owner → List ℕ → State → State
with_new L ty w values s = record s {
  objects = s.objects ++ fresh_object L s.next_object ty w values ∷ [];
  next_object = s.next_object + 1;
}

-- the objects with these numbers leave the heap. What hangs below them stays, until the step's end
-- frees it
abbrev pub without : List ℕ → State → State
without os s = record s { objects = filter (λ x. not (has os x.number)) s.objects }

-- the object of this number has other cells
abbrev pub with_cells : (List ℕ → List ℕ) → Object → Object
with_cells change x = record x { cells = change x.cells }

abbrev pub change_object : ℕ → (Object → Object) → State → State
change_object o change s = record s { objects = map (λ x. if x.number == o then change x else x) s.objects }

abbrev pub with_cells_of : ℕ → (List ℕ → List ℕ) → State → State
with_cells_of o change s = change_object o (with_cells change) s

-- the cells from a place on have these values
abbrev pub overwritten : ℕ → List ℕ → List ℕ → List ℕ
overwritten at values cells = take at cells ++ (values ++ drop (at + length values) cells)

-- the object of this number is at another place
abbrev pub with_placement : Placement → Object → Object
with_placement placement x = record x { placement = placement }

abbrev pub placed : ℕ → Placement → State → State
placed o placement s = change_object o (with_placement placement) s

-- the objects with these numbers pass to an owner; what hangs below them stays below them
abbrev pub owned_by : Owner → Object → Object
owned_by w o = record o { placement = Root w }

abbrev pub given_to : Owner → List ℕ → List Object → List Object
given_to w os objects = map (λ o. if has os o.number then owned_by w o else o) objects
