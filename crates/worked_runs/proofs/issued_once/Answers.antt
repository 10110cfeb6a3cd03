use Rattle.worked_runs.proofs.Wrong.{issued_once_only}
use Rattle.worked_runs.proofs.issued_once.Goals as goal

pub returns : goal.returns
returns c = issued_once_only
