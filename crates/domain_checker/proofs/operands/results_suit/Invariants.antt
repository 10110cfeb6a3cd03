use Rattle.std.proofs.Common.{◌≡◌, drop}
use Rattle.rl_defs.specs.CodeRules.{results_suit}
use Rattle.domain_checker.proofs.operands.results_suit.Given as goal

abbrev pub invariant-each : goal.invariant-each
invariant-each l = results_suit l.kinds (drop l.k l.listed) (drop l.k l.results) ≡ results_suit l.kinds l.listed l.results
