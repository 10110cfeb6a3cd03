use Rattle.std.proofs.Common.{sym, ◌∙◌}
use Rattle.machine_steps.proofs.Seeing.{hung_past, hung_gone, stays_there}
use Rattle.machine_steps.proofs.view.hung_in.Goals as goal

pub returns-then-at-ge-MOST_CELLS : goal.returns-then-at-ge-MOST_CELLS
returns-then-at-ge-MOST_CELLS c = sym (hung_past c.args.heap.now c.is_kept.ensures c.requires c.args.object c.args.at c.if-at-ge-MOST_CELLS.true)

pub hung-requires-clause-stays : goal.hung-requires-clause-stays
hung-requires-clause-stays c = stays_there c.args.heap.now.rows c.requires c.args.object

pub returns-then-not-is_live : goal.returns-then-not-is_live
returns-then-not-is_live c = sym (hung_gone c.args.heap.now c.is_kept.ensures c.requires c.args.object c.args.at (sym c.is_live.ensures ∙ c.if-not-is_live.true))
