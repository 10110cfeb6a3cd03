use Rattle.std.proofs.Common.{◌-◌, ◌≤◌, length, List}
use Rattle.rl_defs.specs.Tokens.{Placed}
use Rattle.rl_defs.specs.DomainForms.{AreDecimal}
use Rattle.rl_text.proofs.ReadingLaws.{Agrees}
use Rattle.rl_text.proofs.decimal.has_decimals.Given as goal

abbrev pub invariant-line : goal.invariant-line
invariant-line l = record {
  within : l.at ≤ length l.text;
  read : (ps : List Placed) × Agrees l.text ps l.at × AreDecimal l.text ps;
}

abbrev pub decreases-line : goal.decreases-line
decreases-line l = length l.text - l.at
