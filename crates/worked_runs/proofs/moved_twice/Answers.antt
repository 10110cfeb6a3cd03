use Rattle.worked_runs.proofs.MovedTwice.{moved_twice}
use Rattle.worked_runs.proofs.moved_twice.Goals as goal

pub returns : goal.returns
returns c = moved_twice
