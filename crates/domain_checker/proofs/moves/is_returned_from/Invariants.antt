use Rattle.std.proofs.Common.{◌≡◌, drop}
use Rattle.rl_defs.specs.CodeRules.{owning, is_among}
use Rattle.domain_checker.proofs.moves.is_returned_from.Given as goal

abbrev pub invariant-each : goal.invariant-each
invariant-each l = is_among l.register (owning l.kinds (drop l.k l.results)) ≡ is_among l.register (owning l.kinds (drop l.from l.results))
