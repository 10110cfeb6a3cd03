use Rattle.worked_runs.proofs.GoneAndSkipped.{gone_and_skipped_is_worked}
use Rattle.worked_runs.proofs.gone_and_skipped.Goals as goal

pub returns : goal.returns
returns c = gone_and_skipped_is_worked
