use Rattle.valid_loads.proofs.Accepting.{accepted_valid}
use Rattle.valid_loads.proofs.accepted_loads_are_valid.Goals as goal

pub returns : goal.returns
returns c = accepted_valid
