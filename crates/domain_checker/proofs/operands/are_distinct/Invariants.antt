use Rattle.std.proofs.Common.{◌≡◌, drop}
use Rattle.rl_defs.specs.CodeRules.{are_distinct}
use Rattle.domain_checker.proofs.operands.are_distinct.Given as goal

abbrev pub invariant-each : goal.invariant-each
invariant-each l = are_distinct (drop l.k l.registers) ≡ are_distinct l.registers
