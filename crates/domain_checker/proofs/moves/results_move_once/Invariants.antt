use Rattle.std.proofs.Common.{◌≡◌, drop}
use Rattle.rl_defs.specs.CodeRules.{owning, are_distinct}
use Rattle.domain_checker.proofs.moves.results_move_once.Given as goal

abbrev pub invariant-each : goal.invariant-each
invariant-each l = are_distinct (owning l.kinds (drop l.k l.results)) ≡ are_distinct (owning l.kinds l.results)
