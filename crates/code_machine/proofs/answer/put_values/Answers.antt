use Rattle.code_machine.proofs.Keeping.{values_stop}
use Rattle.code_machine.proofs.answer.put_values.Goals as goal

pub returns-then-place-values : goal.returns-then-place-values
returns-then-place-values c = values_stop c.args.to.now c.args.values.now c.each.place c.each.registers _ c.if-place-values.true c.each.invariant
