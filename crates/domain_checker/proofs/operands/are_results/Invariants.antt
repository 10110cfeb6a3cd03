use Rattle.std.proofs.Common.{◌≡◌, drop, map}
use Rattle.std.specs.List.{list_all}
use Rattle.rl_defs.specs.CodeKinds.{read, Passed}
use Rattle.rl_defs.specs.CodeRules.{is_met}
use Rattle.domain_checker.proofs.operands.are_results.Given as goal

abbrev pub invariant-each : goal.invariant-each
invariant-each l = list_all (is_met l.kinds) (map (λ r. read r Passed) (drop l.register-index l.results)) ≡ list_all (is_met l.kinds) (map (λ r. read r Passed) l.results)
