use Rattle.std.proofs.Common.{sym, ◌∙◌, ap, subst}
use Rattle.rl_defs.specs.CodeKinds.{kinds_at}
use Rattle.rl_defs.specs.Registers.{Stand}
use Rattle.machine_defs.specs.CodeFits.{FitsStand, FitsAnswer, stand_of}
use Rattle.machine_defs.specs.Instructions.{after_answer}
use Rattle.machine_defs.specs.CodeLaws.{StandsAt}
use Rattle.code_runs.specs.Seen.{types_of}
use Rattle.code_runs.proofs.run.go_on.Goals as goal

pub returns-clause-stands : goal.returns-clause-stands
returns-clause-stands c =
    let types = types_of c.args.view.now in
    let d = c.args.domain.now in
    let awaits = c.answer_fits.ensures.awaits c.if-not-answer_fits.false in
    let there = sym (ap stand_of c.frame_of-frame.ensures) in
    c.take_answer.ensures.fits types awaits.instr
    (subst (λ (s : Stand). StandsAt d awaits.instr s) there awaits.at)
    (subst (λ (s : Stand). FitsStand types d s) there c.requires.stands)
    (subst (λ (s : Stand). FitsAnswer types d (kinds_at d s.at) awaits.instr c.args.answer) there (c.answer_fits.ensures.fits c.if-not-answer_fits.false awaits.instr awaits.at))

pub returns-clause-goes_on : goal.returns-clause-goes_on
returns-clause-goes_on c i at =
    let d = c.args.domain.now in
    let there = sym (ap stand_of c.frame_of-frame.ensures) in
    ap (λ f. stand_of f.body) (c.take_answer.ensures.goes_on i (subst (λ (s : Stand). StandsAt d i s) there at))
    ∙ sym (ap (λ (s : Stand). after_answer d s i c.args.answer) there)
