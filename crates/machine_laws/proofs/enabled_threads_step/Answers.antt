use Rattle.machine_laws.proofs.Laws.{enabled_threads_step}
use Rattle.machine_laws.proofs.enabled_threads_step.Goals as goal

pub returns : goal.returns
returns c = enabled_threads_step
