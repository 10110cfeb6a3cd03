use Rattle.std.proofs.Common.{arith}
use Rattle.exchangeable_types.proofs.Starts.{starts_count}
use Rattle.exchangeable_types.proofs.RowSteps.{none_searched}
use Rattle.exchangeable_types.proofs.Nests.{none_passing}
use Rattle.exchangeable_types.proofs.rows.none_seen.Goals as goal

pub returns-clause-searching : goal.returns-clause-searching
returns-clause-searching c = none_searched c.args.part.now.lines.now c.structs.seen.items (omega (arith, starts_count c.args.part.now.lines.now c.args.part.now.starts c.args.part.now.begins)) c.structs.invariant.none

pub returns-clause-passing : goal.returns-clause-passing
returns-clause-passing c = none_passing c.args.part.now.lines.now c.structs.seen.items (omega (arith, starts_count c.args.part.now.lines.now c.args.part.now.starts c.args.part.now.begins)) c.structs.invariant.none
