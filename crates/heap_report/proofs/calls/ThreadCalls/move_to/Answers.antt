use Rattle.heap_report.specs.KeptCalls.{moved_to}
use Rattle.heap_report.proofs.Mapped.{mapped_more}
use Rattle.heap_report.proofs.calls.ThreadCalls.move_to.Goals as goal

pub each-preserved : goal.each-preserved
each-preserved c = mapped_more (moved_to c.args.call c.args.instance) _ _ c.each.o-index _ c.moved_to.result c.each-test.true c.each.invariant c.moved_to.ensures
