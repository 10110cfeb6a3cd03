use Rattle.worked_runs.proofs.Wrong.{freed_with_the_last}
use Rattle.worked_runs.proofs.freed_with_the_last.Goals as goal

pub returns : goal.returns
returns c = freed_with_the_last
