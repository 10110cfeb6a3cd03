use Rattle.std.proofs.Common.{sym, ◌∙◌, ap}
use Rattle.code_machine.specs.Fitting.{standing}
use Rattle.code_machine.proofs.settle.come.Goals as goal

pub returns : goal.returns
returns c = c.here-to.ensures c.requires.fits.types c.args.registers.now c.requires.fits.fits ∙ ap (standing c.here-to.result.0) (sym c.empty.ensures)
