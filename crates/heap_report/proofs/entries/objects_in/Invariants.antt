use Rattle.std.proofs.Common.{◌≡◌, ◌≤◌, take, length}
use Rattle.machine_defs.specs.Arguments.{objects_in}
use Rattle.heap_report.proofs.entries.objects_in.Given as goal

abbrev pub invariant-each : goal.invariant-each
invariant-each l = record {
  so_far : l.held ≡ objects_in (take l.value-index l.values);
  few : length l.held ≤ l.value-index;
}
