use Rattle.std.proofs.Common.{◌≡◌, drop}
use Rattle.rl_defs.specs.CodeKinds.{passed}
use Rattle.rl_defs.specs.CodeRules.{owning, is_among}
use Rattle.domain_checker.proofs.moves.is_moved_from.Given as goal

abbrev pub invariant-each : goal.invariant-each
invariant-each l = is_among l.register (owning l.kinds (passed (drop l.k l.args))) ≡ is_among l.register (owning l.kinds (passed (drop l.from l.args)))
