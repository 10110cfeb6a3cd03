use Rattle.step_laws.proofs.Quiet.{kills_again}
use Rattle.step_laws.proofs.kills_again_free_nothing.Goals as goal

pub returns : goal.returns
returns c = kills_again
