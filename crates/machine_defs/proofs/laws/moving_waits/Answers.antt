use Rattle.machine_defs.proofs.CodeAnswers.{gives_up}
use Rattle.machine_defs.proofs.laws.moving_waits.Goals as goal

pub returns : goal.returns
returns c = gives_up
