use Rattle.machine_laws.proofs.Laws.{states_are_sound}
use Rattle.machine_laws.proofs.states_are_sound.Goals as goal

pub returns : goal.returns
returns c = states_are_sound
