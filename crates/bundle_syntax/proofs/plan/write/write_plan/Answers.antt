use Rattle.bundle_syntax.proofs.WriteAgain.{plan_again}
use Rattle.bundle_syntax.proofs.plan.write.write_plan.Goals as goal

pub returns-clause-again : goal.returns-clause-again
returns-clause-again c = plan_again c.args.plan.now.lines c.put_lines.new.bytes.items (rw (c.new-bytes.ensures.items, c.as_slice.ensures) at c.in_ok-put_lines.ensures)
