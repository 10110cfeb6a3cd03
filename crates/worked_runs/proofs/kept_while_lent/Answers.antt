use Rattle.worked_runs.proofs.Wrong.{kept_while_lent}
use Rattle.worked_runs.proofs.kept_while_lent.Goals as goal

pub returns : goal.returns
returns c = kept_while_lent
