use Rattle.heap_report.specs.Lines.{left_line}
use Rattle.heap_report.proofs.Lines.{row_more, failed}
use Rattle.heap_report.proofs.report.put_objects.Goals as goal

pub returns-in_err-put_object : goal.returns-in_err-put_object
returns-in_err-put_object c = failed c.from_residual.result c.args.out.now.items c.each.out.items c.put_object.new.out.items _ _ c.from_residual.ensures.0 c.each.invariant c.in_err-put_object.ensures

pub each-preserved : goal.each-preserved
each-preserved c = row_more (left_line c.args.load.now c.args.objects.now.rows.items) c.args.left.now c.each.row-index _ c.args.out.now.items c.each.out.items c.put_object.new.out.items c.each-test.true c.each.invariant c.in_ok-put_object.ensures
