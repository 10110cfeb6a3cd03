use Rattle.step_laws.proofs.Quiet.{quiet_frees_nothing}
use Rattle.step_laws.proofs.quiet_steps_free_nothing.Goals as goal

pub returns : goal.returns
returns c = quiet_frees_nothing
