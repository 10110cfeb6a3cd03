use Rattle.std.proofs.Common.{◌≡◌, map, take}
use Rattle.heap_report.specs.Left as report
use Rattle.rref_heap.specs.HeapValue.{heap_objects}
use Rattle.redleaf_app.proofs.left.objects_left.Given as goal

abbrev pub invariant-objects : goal.invariant-objects
invariant-objects l = l.left.items ≡ map (report.row_of l.world.state) (heap_objects (take l.place l.heap.rows))
