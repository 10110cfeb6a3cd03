use Rattle.step_laws.proofs.Drops.{drops_free}
use Rattle.step_laws.proofs.drops_free.Goals as goal

pub returns : goal.returns
returns c = drops_free
