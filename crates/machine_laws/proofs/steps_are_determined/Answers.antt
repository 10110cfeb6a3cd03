use Rattle.machine_laws.proofs.Determined.{steps_are_determined}
use Rattle.machine_laws.proofs.steps_are_determined.Goals as goal

pub returns : goal.returns
returns c = steps_are_determined
