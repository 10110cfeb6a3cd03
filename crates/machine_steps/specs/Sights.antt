-- What a frame sees of a machine.
use Rattle.std.specs.Prelude.{◌≡◌, ℕ, ◌≤◌, [], List, length, Some, false}
use Rattle.rl_defs.specs.declared.load.LoadRows.{LoadRows}
use Rattle.machine_defs.specs.State.{State, Instance}
use Rattle.machine_defs.specs.Sight.{Sight}
use Rattle.machine_defs.specs.Seen.{seen}
use Rattle.rref_heap.specs.HeapValue.{HeapRow, HeapRows, row_of, heap_objects}

-- the state that a frame sees: instances, and the objects of a heap
abbrev pub seen_by_frame : List Instance → HeapRows → State
seen_by_frame instances rows = record {
  instances = instances;
  objects = heap_objects rows;
  stacks = [];
  threads = [];
  shadows = [];
  blocks = [];
  next_object = 0;
  next_call = 0;
}

-- what is looked at: a load, instances and a heap, from one of the instances
pub record Looked : Type 0 where
  pub load : LoadRows
  pub instances : List Instance
  pub rows : HeapRows
  pub instance : ℕ

abbrev pub sight_of : Looked → Sight
sight_of v = seen v.load (seen_by_frame v.instances v.rows) v.instance

-- between steps no object is listed for the sweep, and none has more than 512 cells
pub record IsRowAtRest (r : HeapRow) : Type 0 where
  pub stays : r.leaves ≡ false
  pub few : length r.object.cells ≤ 512

abbrev pub IsAtRest : HeapRows → Type 0
IsAtRest rows = (o : ℕ) (r : HeapRow) → row_of rows o ≡ Some r → IsRowAtRest r
