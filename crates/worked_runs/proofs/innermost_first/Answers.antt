use Rattle.worked_runs.proofs.Wrong.{innermost_first}
use Rattle.worked_runs.proofs.innermost_first.Goals as goal

pub returns : goal.returns
returns c = innermost_first
