use Rattle.heap_report.proofs.Summing.{counts_more}
use Rattle.heap_report.proofs.summary.write_summary.Goals as goal

pub each-preserved : goal.each-preserved
each-preserved c = record {
  counts = counts_more c.args.log.now c.each.entry-index c.entry-item.result c.each.counts c.count_entry-counts.result c.each-test.true c.entry-item.is c.each.invariant.counts c.count_entry-counts.ensures.counts;
  room = c.count_entry-counts.ensures.room c.each.entry-index c.each.invariant.room;
}
