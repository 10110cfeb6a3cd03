use Rattle.machine_defs.proofs.CodeAnswers.{answers_fit}
use Rattle.machine_defs.proofs.laws.answers_fit.Goals as goal

pub returns : goal.returns
returns c = answers_fit
