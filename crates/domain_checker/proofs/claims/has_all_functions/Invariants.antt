use Rattle.std.proofs.Common.{◌≡◌, drop}
use Rattle.std.specs.List.{list_all}
use Rattle.rl_defs.specs.CodeRules.{has_function}
use Rattle.domain_checker.proofs.claims.has_all_functions.Given as goal

abbrev pub invariant-methods : goal.invariant-methods
invariant-methods l = list_all (has_function l.scope) (drop l.method-index l.methods) ≡ list_all (has_function l.scope) l.methods
