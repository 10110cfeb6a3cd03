use Rattle.std.proofs.Common.{◌≡◌, drop}
use Rattle.rl_defs.specs.CodeRules.{is_among}
use Rattle.domain_checker.proofs.operands.is_among_from.Given as goal

abbrev pub invariant-each : goal.invariant-each
invariant-each l = is_among l.register (drop l.k l.others) ≡ is_among l.register (drop l.from l.others)
