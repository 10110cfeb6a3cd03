use Rattle.text_laws.proofs.OneLine.{histories_apart}
use Rattle.text_laws.proofs.histories_are_apart.Goals as goal

pub returns : goal.returns
returns c = histories_apart
