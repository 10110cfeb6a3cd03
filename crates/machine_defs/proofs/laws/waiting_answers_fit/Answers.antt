use Rattle.machine_defs.proofs.CodeAnswers.{waiting_answers_fit}
use Rattle.machine_defs.proofs.laws.waiting_answers_fit.Goals as goal

pub returns : goal.returns
returns c = waiting_answers_fit
