use Rattle.std.proofs.Common.{◌≡◌, drop, map}
use Rattle.std.specs.List.{list_all}
use Rattle.rl_defs.specs.CodeKinds.{read_of_arg}
use Rattle.rl_defs.specs.CodeRules.{is_met}
use Rattle.domain_checker.proofs.operands.are_arguments.Given as goal

abbrev pub invariant-each : goal.invariant-each
invariant-each l = list_all (is_met l.kinds) (map read_of_arg (drop l.arg-index l.args)) ≡ list_all (is_met l.kinds) (map read_of_arg l.args)
