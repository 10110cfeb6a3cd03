use Rattle.worked_runs.proofs.TrapOverHung.{trap_over_hung}
use Rattle.worked_runs.proofs.trap_over_hung.Goals as goal

pub returns : goal.returns
returns c = trap_over_hung
