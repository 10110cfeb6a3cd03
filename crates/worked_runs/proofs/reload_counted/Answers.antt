use Rattle.worked_runs.proofs.Wrong.{reload_counted}
use Rattle.worked_runs.proofs.reload_counted.Goals as goal

pub returns : goal.returns
returns c = reload_counted
