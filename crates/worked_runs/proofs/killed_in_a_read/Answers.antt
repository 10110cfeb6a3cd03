use Rattle.worked_runs.proofs.KilledInARead.{killed_in_a_read_is_worked}
use Rattle.worked_runs.proofs.killed_in_a_read.Goals as goal

pub returns : goal.returns
returns c = killed_in_a_read_is_worked
