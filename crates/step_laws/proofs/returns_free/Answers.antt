use Rattle.step_laws.proofs.Returns.{returns_free}
use Rattle.step_laws.proofs.returns_free.Goals as goal

pub returns : goal.returns
returns c = returns_free
