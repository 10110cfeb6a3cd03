use Rattle.std.proofs.Common.{◌≡◌, drop}
use Rattle.code_runs.specs.Seen.{types_of}
use Rattle.code_runs.specs.Suits.{cells_suit}
use Rattle.code_runs.proofs.fits.cells_suit.Given as goal

abbrev pub invariant-each : goal.invariant-each
invariant-each l = cells_suit (types_of l.view) (drop l.place l.cells) (drop l.place l.kinds) ≡ cells_suit (types_of l.view) l.cells l.kinds
