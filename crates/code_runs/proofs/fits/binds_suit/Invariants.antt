use Rattle.std.proofs.Common.{◌≡◌, ◌≤◌, drop, length}
use Rattle.rl_defs.specs.CodeNames.{imports}
use Rattle.code_runs.specs.Seen.{types_of}
use Rattle.code_runs.specs.Suits.{binds_suit}
use Rattle.code_runs.proofs.fits.binds_suit.Given as goal

abbrev pub invariant-lines : goal.invariant-lines
invariant-lines l = record {
  within : l.place ≤ length l.bound;
  rest : binds_suit (types_of l.view) l.domain.tables (drop l.place l.bound) (imports (drop l.line-index l.lines)) ≡ binds_suit (types_of l.view) l.domain.tables l.bound (imports l.lines);
}
