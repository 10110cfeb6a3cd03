use Rattle.exchangeable_types.proofs.Capping.{no_copies}
use Rattle.exchangeable_types.proofs.cells.extended.Goals as goal

pub returns-in-empty : goal.returns-in-empty
returns-in-empty c = no_copies c.args.list c.args.kinds.now c.args.times c.in-empty.len_below
