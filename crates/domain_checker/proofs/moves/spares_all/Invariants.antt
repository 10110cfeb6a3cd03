use Rattle.std.proofs.Common.{◌≡◌, drop}
use Rattle.std.specs.List.{list_all}
use Rattle.rl_defs.specs.CodeRules.{spares}
use Rattle.domain_checker.proofs.moves.spares_all.Given as goal

abbrev pub invariant-each : goal.invariant-each
invariant-each l = list_all (spares l.kinds) (drop l.register-index l.registers) ≡ list_all (spares l.kinds) l.registers
