use Rattle.std.proofs.Common.{sym, ◌∙◌}
use Rattle.code_runs.proofs.Seeing.{fits_sight}
use Rattle.code_runs.proofs.fits.view_fits.Goals as goal

pub returns-clause-fits : goal.returns-clause-fits
returns-clause-fits c so = fits_sight c.args.view.now c.args.domain.now c.lines.ensures.keeps.small (sym c.all_suit.ensures ∙ so)
