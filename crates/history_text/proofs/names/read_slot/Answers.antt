use Rattle.history_text.proofs.WordLaws.{slot_is}
use Rattle.history_text.proofs.names.read_slot.Goals as goal

pub returns : goal.returns
returns c = slot_is c.read.result c.args.word.now c.read.ensures.exact c.read.ensures.value
