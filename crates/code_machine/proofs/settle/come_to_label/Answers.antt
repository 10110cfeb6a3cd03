use Rattle.std.proofs.Common.{sym, ◌∙◌, ap}
use Rattle.code_machine.proofs.Going.{jumps_behind}
use Rattle.code_machine.specs.Fitting.{standing}
use Rattle.code_machine.proofs.settle.come_to_label.Goals as goal

pub returns : goal.returns
returns c =
    let goes = c.requires.goes in
    jumps_behind c.args.domain.now c.args.place goes.at.number goes.place goes.instr c.args.registers.now goes.at.here goes.leads
    ∙ (c.jump-to.ensures goes.at.number goes.instr goes.at.here goes.place goes.leads goes.types c.args.registers.now goes.fits
    ∙ ap (standing c.jump-to.result.0) (sym c.empty.ensures))
