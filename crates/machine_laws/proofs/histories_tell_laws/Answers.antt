use Rattle.machine_laws.proofs.Laws.{histories_tell_laws}
use Rattle.machine_laws.proofs.histories_tell_laws.Goals as goal

pub returns : goal.returns
returns c = histories_tell_laws
