-- What the cells of an object show.
use Rattle.std.specs.Prelude.{ℕ, ◌+◌, List, [], ◌∷◌, length}
use Rattle.rl_defs.specs.declared.values.Value.{Value}
use Rattle.machine_defs.specs.State.{State}
use Rattle.machine_defs.specs.Objects.{cell_value, hung_in}
use Rattle.rref_heap.specs.HeapValue.{HeapRows, heap_objects}

-- a state in which there are the objects of a heap, and nothing else
abbrev pub heap_state : HeapRows → State
heap_state rows = record {
  instances = [];
  objects = heap_objects rows;
  stacks = [];
  threads = [];
  shadows = [];
  blocks = [];
  next_object = length rows + 1;
  next_call = 1;
}

-- what each of these cells of an object shows, from a place on
abbrev pub values_from : State → ℕ → ℕ → List ℕ → List Value
values_from s o at [] = []
values_from s o at (n ∷ cells) = cell_value (hung_in s o at) n ∷ values_from s o (at + 1) cells
