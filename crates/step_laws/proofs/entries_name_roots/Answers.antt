use Rattle.step_laws.proofs.Naming.{entries_name}
use Rattle.step_laws.proofs.entries_name_roots.Goals as goal

pub returns : goal.returns
returns c = entries_name
