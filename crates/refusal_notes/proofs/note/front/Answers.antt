use Rattle.refusal_notes.proofs.Shown.{take_whole}
use Rattle.refusal_notes.proofs.note.front.Goals as goal

pub returns-then-text-le-MOST_SHOWN : goal.returns-then-text-le-MOST_SHOWN
returns-then-text-le-MOST_SHOWN c = take_whole c.args.text.now 120 c.if-text-le-MOST_SHOWN.true
