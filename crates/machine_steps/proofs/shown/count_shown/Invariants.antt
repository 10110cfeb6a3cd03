use Rattle.std.proofs.Common.{◌≡◌, take, length}
use Rattle.machine_defs.specs.Objects.{listed_from}
use Rattle.machine_steps.specs.CellsShown.{heap_state}
use Rattle.machine_steps.proofs.shown.count_shown.Given as goal

abbrev pub invariant-cells : goal.invariant-cells
invariant-cells l = l.count ≡ length (listed_from (heap_state l.heap.rows) l.o 0 (take l.at l.cells))
