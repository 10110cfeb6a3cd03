use Rattle.std.proofs.Common.{◌≡◌, ℕ, true, take, if◌then◌else◌}
use Rattle.machine_defs.specs.Arguments.{has}
use Rattle.heap_report.specs.KeptObjects.{record_at, told, IsCounted}
use Rattle.heap_report.proofs.objects.ObjectRecords.remove_all.Given as goal

abbrev pub invariant-each : goal.invariant-each
invariant-each l = record {
  told : (o : ℕ) → told (record_at l.self.rows.items o) ≡ (if has (take l.object-index l.object-items) o then record (told (record_at l.fn.self.rows.items o)) { gone = true } else told (record_at l.fn.self.rows.items o));
  counted : IsCounted l.self.rows.items l.self.made;
  made : l.self.made ≡ l.fn.self.made;
}
