use Rattle.std.proofs.Common.{◌≡◌, ◌++◌, map, take, drop}
use Rattle.heap_report.specs.KeptCalls.{moved_to}
use Rattle.heap_report.proofs.calls.ThreadCalls.move_to.Given as goal

abbrev pub invariant-each : goal.invariant-each
invariant-each l = l.o-items ≡ map (moved_to l.call l.instance) (take l.o-index l.initial.o-items) ++ drop l.o-index l.initial.o-items
