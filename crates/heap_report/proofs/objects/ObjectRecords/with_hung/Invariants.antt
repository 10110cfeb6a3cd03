use Rattle.std.proofs.Common.{◌≡◌, ◌≤◌, ◌+◌, ◌*◌, take, length}
use Rattle.heap_report.specs.KeptObjects.{with_hung}
use Rattle.heap_report.proofs.objects.ObjectRecords.with_hung.Given as goal

abbrev pub invariant-each : goal.invariant-each
invariant-each l = record {
  so_far : l.count ≡ length (with_hung l.self.rows.items l.self.made (take l.object-index l.object-items));
  within : l.count ≤ l.object-index * (l.self.made + 1);
}
