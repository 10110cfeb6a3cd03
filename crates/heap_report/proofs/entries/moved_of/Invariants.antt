use Rattle.std.proofs.Common.{◌≡◌, ◌≤◌, take, length}
use Rattle.machine_defs.specs.Arguments.{moved_of}
use Rattle.heap_report.proofs.entries.moved_of.Given as goal

abbrev pub invariant-each : goal.invariant-each
invariant-each l = record {
  so_far : l.moved ≡ moved_of (take l.arg-index l.args);
  few : length l.moved ≤ l.arg-index;
}
