use Rattle.step_laws.proofs.Quiet.{objects_found}
use Rattle.step_laws.proofs.objects_are_found.Goals as goal

pub returns : goal.returns
returns c = objects_found
