use Rattle.std.proofs.Common.{◌≡◌, drop}
use Rattle.std.specs.List.{list_any}
use Rattle.rl_defs.specs.CodeKinds.{passed}
use Rattle.rl_defs.specs.CodeRules.{owning, is_among, lent}
use Rattle.domain_checker.proofs.moves.moves_a_lent.Given as goal

abbrev pub invariant-each : goal.invariant-each
invariant-each l = list_any (λ r. is_among r (lent l.others)) (owning l.kinds (passed (drop l.arg-index l.args))) ≡ list_any (λ r. is_among r (lent l.others)) (owning l.kinds (passed l.args))
