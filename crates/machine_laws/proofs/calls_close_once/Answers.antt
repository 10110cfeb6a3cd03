use Rattle.machine_laws.proofs.Laws.{calls_close_once}
use Rattle.machine_laws.proofs.calls_close_once.Goals as goal

pub returns : goal.returns
returns c = calls_close_once
