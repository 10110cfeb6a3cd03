use Rattle.worked_runs.proofs.PutTwice.{put_twice_is_worked}
use Rattle.worked_runs.proofs.put_twice.Goals as goal

pub returns : goal.returns
returns c = put_twice_is_worked
