use Rattle.std.proofs.Common.{◌≡◌, take}
use Rattle.heap_report.specs.Summed.{counts_of, AreCountsFew}
use Rattle.heap_report.proofs.summary.write_summary.Given as goal

abbrev pub invariant-each : goal.invariant-each
invariant-each l = record {
  counts : l.counts ≡ counts_of (take l.entry-index l.log);
  room : AreCountsFew l.counts l.entry-index;
}
