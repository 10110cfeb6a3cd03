use Rattle.machine_laws.proofs.Laws.{some_thread_is_enabled}
use Rattle.machine_laws.proofs.some_thread_is_enabled.Goals as goal

pub returns : goal.returns
returns c = some_thread_is_enabled
