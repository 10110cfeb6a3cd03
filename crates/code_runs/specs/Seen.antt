-- What a view that stands in memory says, and of which structs and traits it says that objects and
-- targets are.
use Rattle.std.specs.Prelude.{ℕ, ◌^◌, List, [], Option, Some, None, slice_get}
use Rattle.std.specs.List.{slice_index_or}
use Rattle.machine_defs.specs.Sight.{Sight}
use Rattle.rl_defs.specs.Registers.{Typing}
use Rattle.code_runs.specs.declared.view.Cell.{Cell}
use Rattle.code_runs.specs.declared.view.Cell.TheVariants as cell
use Rattle.code_runs.specs.declared.view.SeenObject.{SeenObject}
use Rattle.code_runs.specs.declared.view.MemoryView.{MemoryView}

-- the cells of an object, by its number
abbrev pub cells_seen : Option SeenObject → List Cell
cells_seen None = []
cells_seen (Some o) = o.cells

abbrev pub cell_at : MemoryView → ℕ → ℕ → Option Cell
cell_at v o at = slice_get (cells_seen (slice_get v.objects o)) at

-- the number, or the object, that a cell holds
abbrev pub number_of : Option Cell → Option ℕ
number_of (Some (cell.Num n)) = Some n
number_of _ = None

abbrev pub hung_of : Option Cell → Option ℕ
hung_of (Some (cell.Holds o)) = Some o
hung_of _ = None

-- what a slot holds, where it is there
abbrev pub held_by : Option (Option ℕ) → Option ℕ
held_by None = None
held_by (Some held) = held

-- the struct of an object; one that isn't there is of none, which no number of a struct is
abbrev pub struct_seen : Option SeenObject → ℕ
struct_seen None = 2 ^ 32
struct_seen (Some o) = o.of

abbrev pub types_of : MemoryView → Typing
types_of v = record {
  struct_of = λ o. struct_seen (slice_get v.objects o);
  trait_of = λ x. slice_index_or v.traits x 0;
}

abbrev pub sight_of : MemoryView → Sight
sight_of v = record {
  types = types_of v;
  cell = λ o at. number_of (cell_at v o at);
  word = λ at. slice_get v.words at;
  slot = λ k. held_by (slice_get v.slots k);
  hung = λ o at. hung_of (cell_at v o at);
  blocks = v.blocks;
  bound = λ k. slice_index_or v.binds k 0;
}
