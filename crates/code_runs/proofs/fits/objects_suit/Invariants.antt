use Rattle.std.proofs.Common.{◌≡◌, drop}
use Rattle.code_runs.specs.Seen.{types_of}
use Rattle.code_runs.specs.Suits.{objects_suit}
use Rattle.code_runs.proofs.fits.objects_suit.Given as goal

abbrev pub invariant-objects : goal.invariant-objects
invariant-objects l = objects_suit (types_of l.view) l.domain.tables (drop l.seen-index l.objects) ≡ objects_suit (types_of l.view) l.domain.tables l.objects
