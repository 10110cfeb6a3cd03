use Rattle.step_laws.proofs.Counting.{runs_counted}
use Rattle.step_laws.proofs.runs_count_up.Goals as goal

pub returns : goal.returns
returns c = runs_counted
