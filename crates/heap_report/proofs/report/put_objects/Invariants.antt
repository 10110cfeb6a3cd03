use Rattle.std.proofs.Common.{◌≡◌, ◌++◌, take}
use Rattle.std.specs.List.{flat_map}
use Rattle.heap_report.specs.Lines.{left_line}
use Rattle.heap_report.proofs.report.put_objects.Given as goal

abbrev pub invariant-each : goal.invariant-each
invariant-each l = l.out.items ≡ l.fn.out.items ++ flat_map (left_line l.load l.objects.rows.items) (take l.row-index l.left)
