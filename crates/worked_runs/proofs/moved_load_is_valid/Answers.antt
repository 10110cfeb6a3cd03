use Rattle.worked_runs.proofs.ValidMoved.{moved_valid}
use Rattle.worked_runs.proofs.moved_load_is_valid.Goals as goal

pub returns : goal.returns
returns c = moved_valid
