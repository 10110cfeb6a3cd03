use Rattle.exchangeable_types.proofs.RowSteps.{rowing_more}
use Rattle.exchangeable_types.proofs.rows.next_row.Goals as goal

pub returns-clause-ok : goal.returns-clause-ok
returns-clause-ok c = rowing_more c.args.part.now.lines.now c.args.states.now.items c.take-state.new.states.items c.args.seen.now.items c.row_of.new.seen.items c.args.rows.now c.push.new.self c.args.number c.in_ok-row.row c.requires.rowing c.take-state.ensures.left c.in_ok-row.ensures.answer c.in_ok-row.ensures.searching c.in_ok-push.ensures.ok
