use Rattle.worked_runs.proofs.KilledTwice.{killed_twice_is_worked}
use Rattle.worked_runs.proofs.killed_twice.Goals as goal

pub returns : goal.returns
returns c = killed_twice_is_worked
