use Rattle.step_laws.proofs.Ends.{ends_free}
use Rattle.step_laws.proofs.ends_free.Goals as goal

pub returns : goal.returns
returns c = ends_free
