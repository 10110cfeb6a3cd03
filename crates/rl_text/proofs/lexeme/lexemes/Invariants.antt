use Rattle.std.proofs.Common.{◌≡◌, ◌-◌, ◌≤◌, length, map, take, true, List}
use Rattle.std.specs.List.{list_all}
use Rattle.rl_defs.specs.Tokens.{Placed, tokens_of, is_line_byte}
use Rattle.rl_text.specs.Lexemes.{token_of}
use Rattle.rl_text.proofs.ReadingLaws.{Agrees}
use Rattle.rl_text.proofs.lexeme.lexemes.Given as goal

abbrev pub invariant-line : goal.invariant-line
invariant-line l = record {
  within : l.at ≤ length l.text;
  bytes : list_all is_line_byte (take l.at l.text) ≡ true;
  read : (ps : List Placed) × Agrees l.text ps l.at × (map (token_of l.text) l.all.items ≡ tokens_of ps);
}

abbrev pub decreases-line : goal.decreases-line
decreases-line l = length l.text - l.at
