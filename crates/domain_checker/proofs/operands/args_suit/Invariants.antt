use Rattle.std.proofs.Common.{◌≡◌, drop}
use Rattle.rl_defs.specs.CodeRules.{args_suit}
use Rattle.domain_checker.proofs.operands.args_suit.Given as goal

abbrev pub invariant-each : goal.invariant-each
invariant-each l = args_suit l.kinds (drop l.k l.params) (drop l.k l.args) ≡ args_suit l.kinds l.params l.args
