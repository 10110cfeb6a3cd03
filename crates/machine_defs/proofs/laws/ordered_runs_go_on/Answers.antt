use Rattle.machine_defs.proofs.TurnsTold.{ordered_runs_go_on}
use Rattle.machine_defs.proofs.laws.ordered_runs_go_on.Goals as goal

pub returns : goal.returns
returns c = ordered_runs_go_on
