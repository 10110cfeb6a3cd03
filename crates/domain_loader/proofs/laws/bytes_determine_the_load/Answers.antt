use Rattle.domain_loader.proofs.OneLoad.{one_load}
use Rattle.domain_loader.proofs.laws.bytes_determine_the_load.Goals as goal

pub returns : goal.returns
returns c = one_load
