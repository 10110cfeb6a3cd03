use Rattle.std.proofs.Common.{◌≡◌, ℕ}
use Rattle.rref_heads.specs.Passes.{IsPassOf}
use Rattle.heads_command.proofs.tests.exactly_one_of_two_gets_each_payload.Given as goal

abbrev pub invariant-loop-i : goal.invariant-loop-i
invariant-loop-i g l = IsPassOf l.table l.first × IsPassOf l.table l.second
