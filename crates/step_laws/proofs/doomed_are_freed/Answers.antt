use Rattle.step_laws.proofs.Quiet.{doomed_freed}
use Rattle.step_laws.proofs.doomed_are_freed.Goals as goal

pub returns : goal.returns
returns c = doomed_freed
