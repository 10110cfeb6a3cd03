use Rattle.std.proofs.Common.{arith}
use Rattle.machine_steps.proofs.Sizes.{few_instances}
use Rattle.machine_steps.proofs.machine.Machine.opened.Goals as goal

pub overflow_cast-result : goal.overflow_cast-result
overflow_cast-result c = (let few = few_instances c.laws.ensures c.self.invariant in omega (arith, few, c.len.ensures))
