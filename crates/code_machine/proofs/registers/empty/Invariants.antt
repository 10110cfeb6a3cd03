use Rattle.std.proofs.Common.{◌≡◌, drop}
use Rattle.rl_defs.specs.LineRows.{emptied}
use Rattle.code_machine.proofs.registers.empty.Given as goal

abbrev pub invariant-each : goal.invariant-each
invariant-each l = emptied (drop l.register-index l.list) l.registers ≡ emptied l.list l.initial.registers
