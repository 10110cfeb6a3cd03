use Rattle.exchangeable_types.proofs.Nests.{cells_answer}
use Rattle.exchangeable_types.proofs.RowLaws.{state_many, state_few, state_nested, state_stands}
use Rattle.exchangeable_types.proofs.rows.row_of.Goals as goal

pub returns-in-Ended-TooMany-clause-answer : goal.returns-in-Ended-TooMany-clause-answer
returns-in-Ended-TooMany-clause-answer c = state_many c.args.part.now.lines.now c.args.number c.head_of-head.result c.args.state c.in-Ended-TooMany.field-0 c.refused-in-Ended-TooMany.result c.requires.known c.head_of-head.ensures c.in-Ended-TooMany.is c.in-Ended-TooMany.field-0-is c.refused-in-Ended-TooMany.ensures

pub returns-in-Ok-true-clause-answer : goal.returns-in-Ok-true-clause-answer
returns-in-Ok-true-clause-answer c = state_nested c.args.part.now.lines.now c.args.number c.head_of-head.result c.in-Ended-Few.flat c.as_slice.result.now c.nests.new.seen.items c.in-Ok-true.field-0 c.refused-in-Ok-true.result c.head_of-head.ensures (state_few c.args.part.now.lines.now c.args.number c.args.state c.in-Ended-Few.field-0 c.in-Ended-Few.flat c.requires.known c.in-Ended-Few.is c.in-Ended-Few.field-0-is) c.as_slice.ensures (cells_answer c.args.part.now.lines.now c.nests.new.seen.items c.nests.new.passed.items c.as_slice.result.now c.in-Ok-true.field-0 c.in-Ok-true.ensures) c.in-Ok-true.field-0-test c.refused-in-Ok-true.ensures

pub returns-in-Ok-false-clause-answer : goal.returns-in-Ok-false-clause-answer
returns-in-Ok-false-clause-answer c = state_stands c.args.part.now.lines.now c.args.number c.head_of-head.result c.in-Ended-Few.flat c.as_slice.result.now c.nests.new.seen.items c.in-Ok-false.field-0 c.head_of-head.ensures (state_few c.args.part.now.lines.now c.args.number c.args.state c.in-Ended-Few.field-0 c.in-Ended-Few.flat c.requires.known c.in-Ended-Few.is c.in-Ended-Few.field-0-is) c.as_slice.ensures (cells_answer c.args.part.now.lines.now c.nests.new.seen.items c.nests.new.passed.items c.as_slice.result.now c.in-Ok-false.field-0 c.in-Ok-false.ensures) c.in-Ok-false.field-0-test

pub nests-requires-clause-flat : goal.nests-requires-clause-flat
nests-requires-clause-flat c = rw c.as_slice.ensures (state_few c.args.part.now.lines.now c.args.number c.args.state c.in-Ended-Few.field-0 c.in-Ended-Few.flat c.requires.known c.in-Ended-Few.is c.in-Ended-Few.field-0-is).0
