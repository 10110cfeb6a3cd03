use Rattle.std.proofs.Common.{◌≡◌, ◌-◌, ◌≤◌, length, map, List}
use Rattle.rl_defs.specs.Tokens.{Placed}
use Rattle.rl_text.specs.TokenPlaces.{span_of}
use Rattle.rl_text.proofs.ReadingLaws.{Agrees}
use Rattle.rl_text.proofs.token.tokens.Given as goal

abbrev pub invariant-line : goal.invariant-line
invariant-line l = record {
  within : l.at ≤ length l.text;
  read : (ps : List Placed) × Agrees l.text ps l.at × (l.all.items ≡ map (span_of l.line.start) ps);
}

abbrev pub decreases-line : goal.decreases-line
decreases-line l = length l.text - l.at
