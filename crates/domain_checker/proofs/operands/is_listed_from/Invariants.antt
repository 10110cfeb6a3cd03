use Rattle.std.proofs.Common.{◌≡◌, drop, map}
use Rattle.rl_defs.specs.CodeRules.{is_among}
use Rattle.domain_checker.proofs.operands.is_listed_from.Given as goal

abbrev pub invariant-each : goal.invariant-each
invariant-each l = is_among l.register (map (λ item. item.register) (drop l.k l.items)) ≡ is_among l.register (map (λ item. item.register) (drop l.from l.items))
