use Rattle.std.proofs.Common.{◌≡◌, drop}
use Rattle.rl_defs.specs.CodeRules.{is_among, lent}
use Rattle.domain_checker.proofs.moves.is_lent.Given as goal

abbrev pub invariant-each : goal.invariant-each
invariant-each l = is_among l.register (lent (drop l.arg-index l.args)) ≡ is_among l.register (lent l.args)
