use Rattle.std.proofs.Common.{subst}
use Rattle.machine_steps.specs.Kept.{Kept, Agrees}
use Rattle.domain_machine.proofs.world.World.heap.Goals as goal

pub returns-clause-agrees : goal.returns-clause-agrees
returns-clause-agrees c =
    let P : Kept → Type 0 = λ w. Agrees w.load w.state c.heap.result.now.rows in
    subst P c.self.view_is c.heap.ensures.agrees
