use Rattle.std.proofs.Common.{ap, sym, subst}
use Rattle.machine_defs.specs.CodeFits.{stand_of, FitsStand, FitsWaiting, FitsAnswer}
use Rattle.machine_defs.specs.CodeLaws.{StandsAt}
use Rattle.rl_defs.specs.CodeKinds.{kinds_at}
use Rattle.rl_defs.specs.Registers.{Stand}
use Rattle.code_machine.proofs.answer.take_answer.Goals as goal

pub returns-clause-fits : goal.returns-clause-fits
returns-clause-fits g c types i =
    subst (λ (s : Stand). StandsAt c.args.domain.now i s → FitsStand types c.args.domain.now s → FitsAnswer types c.args.domain.now (kinds_at c.args.domain.now s.at) i c.args.answer.now → FitsStand types c.args.domain.now (record { at = c.take_answer_in.new.line; regs = c.take_answer_in.new.registers })) (sym (ap stand_of c.in-Code.is)) (c.take_answer_in.ensures.fits types i)

pub returns-clause-fits_again : goal.returns-clause-fits_again
returns-clause-fits_again g c types i =
    subst (λ (s : Stand). FitsWaiting types c.args.domain.now i s → FitsAnswer types c.args.domain.now (kinds_at c.args.domain.now s.at) i c.args.answer.now → FitsStand types c.args.domain.now (record { at = c.take_answer_in.new.line; regs = c.take_answer_in.new.registers })) (sym (ap stand_of c.in-Code.is)) (c.take_answer_in.ensures.fits_again types i)
