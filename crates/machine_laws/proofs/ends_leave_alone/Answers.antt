use Rattle.machine_laws.proofs.Laws.{ends_leave_alone}
use Rattle.machine_laws.proofs.ends_leave_alone.Goals as goal

pub returns : goal.returns
returns c = ends_leave_alone
