use Rattle.std.proofs.Common.{◌≡◌, drop}
use Rattle.rl_defs.specs.CodeKinds.{passed}
use Rattle.rl_defs.specs.CodeRules.{owning, are_distinct}
use Rattle.domain_checker.proofs.moves.args_move_once.Given as goal

abbrev pub invariant-each : goal.invariant-each
invariant-each l = are_distinct (owning l.kinds (passed (drop l.k l.args))) ≡ are_distinct (owning l.kinds (passed l.args))
