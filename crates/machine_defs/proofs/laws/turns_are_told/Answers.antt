use Rattle.machine_defs.proofs.TurnsTold.{turns_told}
use Rattle.machine_defs.proofs.laws.turns_are_told.Goals as goal

pub returns : goal.returns
returns c = turns_told
