use Rattle.worked_runs.proofs.EndedCaller.{ended_caller_is_worked}
use Rattle.worked_runs.proofs.ended_caller.Goals as goal

pub returns : goal.returns
returns c = ended_caller_is_worked
