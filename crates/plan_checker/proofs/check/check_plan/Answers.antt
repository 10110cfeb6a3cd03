use Rattle.plan_checker.proofs.Ordering.{parts_rise}
use Rattle.plan_checker.proofs.Whole.{parts_of, whole_answers}
use Rattle.plan_checker.proofs.check.check_plan.Goals as goal

pub rows_by_parts-requires : goal.rows_by_parts-requires
rows_by_parts-requires c = parts_of c.args.domains.now c.as_slice-all.result.now c.args.plan.now c.args.clients.now c.as_slice-lines.result.now c.as_slice-scripts.result.now c.as_slice-all.ensures c.as_slice-lines.ensures c.as_slice-scripts.ensures (parts_rise c.requires.0 c.args.domains.now c.args.plan.now c.args.clients.now c.requires.1)

pub returns : goal.returns
returns c = λ idl. whole_answers idl c.args.domains.now c.as_slice-all.result.now c.args.plan.now c.args.clients.now c.as_slice-lines.result.now c.as_slice-scripts.result.now c.rows_by_parts.result c.as_slice-all.ensures c.as_slice-lines.ensures c.as_slice-scripts.ensures c.rows_by_parts.ensures
