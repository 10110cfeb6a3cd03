use Rattle.worked_runs.proofs.LentWhileKilled.{lent_while_killed}
use Rattle.worked_runs.proofs.lent_while_killed.Goals as goal

pub returns : goal.returns
returns c = lent_while_killed
