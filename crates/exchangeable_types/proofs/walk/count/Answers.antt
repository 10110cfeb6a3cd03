use Rattle.std.proofs.Common.{arith}
use Rattle.exchangeable_types.proofs.Starts.{starts_count, structs_few}
use Rattle.exchangeable_types.proofs.walk.count.Goals as goal

pub overflow_cast-result : goal.overflow_cast-result
overflow_cast-result c = omega (arith, c.len.ensures, starts_count c.args.part.now.lines.now c.args.part.now.starts c.args.part.now.begins, structs_few c.args.part.now.lines.now, c.args.part.now.few)

pub returns : goal.returns
returns c = omega (arith, c.len.ensures, starts_count c.args.part.now.lines.now c.args.part.now.starts c.args.part.now.begins)
