use Rattle.exchangeable_types.proofs.TypesOnce.{types_once}
use Rattle.exchangeable_types.proofs.laws.one_types.Goals as goal

pub returns : goal.returns
returns c = types_once
