use Rattle.worked_runs.proofs.HungAndDropped.{hung_and_dropped}
use Rattle.worked_runs.proofs.hung_and_dropped.Goals as goal

pub returns : goal.returns
returns c = hung_and_dropped
