use Rattle.rref_heads.proofs.HeapEvents.{each_step}
use Rattle.rref_heads.proofs.laws.each_step_is_one_event.Goals as goal

pub returns : goal.returns
returns c = each_step
