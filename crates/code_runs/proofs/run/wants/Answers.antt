use Rattle.std.proofs.Common.{sym, ◌∙◌, ap, subst}
use Rattle.rl_defs.specs.Registers.{Stand}
use Rattle.machine_defs.specs.CodeFits.{FitsStand, stand_of}
use Rattle.code_machine.specs.Fitting.{standing}
use Rattle.code_runs.specs.Seen.{types_of}
use Rattle.code_runs.proofs.run.wants.Goals as goal

pub returns-clause-stands : goal.returns-clause-stands
returns-clause-stands c =
    let types = types_of c.args.view.now in
    let is = ap stand_of c.in-Code.is ∙ ap (standing c.in-Code.line) (sym c.copied-registers.ensures.value) in
    c.settle_in-act.ensures.fits types (subst (λ (s : Stand). FitsStand types c.args.domain.now s) is c.requires.stands) c.requires.sees
