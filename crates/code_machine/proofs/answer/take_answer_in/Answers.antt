use Rattle.std.proofs.Common.{refl}
use Rattle.machine_defs.proofs.CodeAnswers.{answers_fit, waiting_answers_fit}
use Rattle.code_machine.specs.Fitting.{standing}
use Rattle.code_machine.proofs.Answering.{fits_there}
use Rattle.code_machine.proofs.answer.take_answer_in.Goals as goal

pub returns-clause-fits : goal.returns-clause-fits
returns-clause-fits c types i at stand fits =
    fits_there c.args.domain.now types i c.args.answer.now (standing c.args.line.now c.args.registers.now) _ _ refl (c.behind.ensures i) at
    (answers_fit c.args.domain.now types i c.args.answer.now (standing c.args.line.now c.args.registers.now) c.lines.ensures.keeps at stand fits)

pub returns-clause-fits_again : goal.returns-clause-fits_again
returns-clause-fits_again c types i waiting fits =
    fits_there c.args.domain.now types i c.args.answer.now (standing c.args.line.now c.args.registers.now) _ _ refl (c.behind.ensures i) (record { number = waiting.number; here = waiting.here })
    (waiting_answers_fit c.args.domain.now types i c.args.answer.now (standing c.args.line.now c.args.registers.now) c.lines.ensures.keeps waiting fits)
