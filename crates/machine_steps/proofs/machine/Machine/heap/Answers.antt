use Rattle.std.proofs.Common.{subst}
use Rattle.machine_steps.specs.Kept.{Kept, Agrees}
use Rattle.machine_steps.proofs.machine.Machine.heap.Goals as goal

pub returns-clause-agrees : goal.returns-clause-agrees
returns-clause-agrees c = subst (λ (w : Kept). Agrees w.load w.state c.self.inside.heap.rows) c.self.view_is c.self.invariant.agrees
