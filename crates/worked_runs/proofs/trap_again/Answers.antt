use Rattle.worked_runs.proofs.TrapAgain.{trap_again_is_worked}
use Rattle.worked_runs.proofs.trap_again.Goals as goal

pub returns : goal.returns
returns c = trap_again_is_worked
