use Rattle.std.proofs.Common.{◌≡◌, ◌≤◌, drop, length}
use Rattle.rl_defs.specs.CodeNames.{slots}
use Rattle.code_runs.specs.Seen.{types_of}
use Rattle.code_runs.specs.Suits.{slots_suit}
use Rattle.code_runs.proofs.fits.slots_suit.Given as goal

abbrev pub invariant-lines : goal.invariant-lines
invariant-lines l = record {
  within : l.place ≤ length l.held;
  rest : slots_suit (types_of l.view) l.domain.tables (drop l.place l.held) (slots (drop l.line-index l.lines)) ≡ slots_suit (types_of l.view) l.domain.tables l.held (slots l.lines);
}
