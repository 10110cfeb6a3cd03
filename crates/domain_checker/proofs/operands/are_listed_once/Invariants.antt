use Rattle.std.proofs.Common.{◌≡◌, drop, map}
use Rattle.rl_defs.specs.CodeRules.{are_distinct}
use Rattle.domain_checker.proofs.operands.are_listed_once.Given as goal

abbrev pub invariant-each : goal.invariant-each
invariant-each l = are_distinct (map (λ item. item.register) (drop l.k l.items)) ≡ are_distinct (map (λ item. item.register) l.items)
