use Rattle.code_machine.proofs.Keeping.{keep_ends}
use Rattle.code_machine.proofs.answer.keep.Goals as goal

pub returns : goal.returns
returns c = keep_ends c.args.items.now c.each.item-index c.copied-before.result c.args.registers.now c.each.registers c.each-test.false c.each.invariant c.copied-before.ensures.value c.copied-before.ensures.count
