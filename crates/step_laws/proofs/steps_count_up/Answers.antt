use Rattle.step_laws.proofs.Counting.{counts_up}
use Rattle.step_laws.proofs.steps_count_up.Goals as goal

pub returns : goal.returns
returns c = counts_up
