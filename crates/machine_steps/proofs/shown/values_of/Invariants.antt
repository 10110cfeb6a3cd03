use Rattle.std.proofs.Common.{◌≡◌, take}
use Rattle.machine_steps.specs.CellsShown.{heap_state, values_from}
use Rattle.machine_steps.proofs.shown.values_of.Given as goal

abbrev pub invariant-cells : goal.invariant-cells
invariant-cells l = l.values ≡ values_from (heap_state l.heap.rows) l.o 0 (take l.at l.cells)
