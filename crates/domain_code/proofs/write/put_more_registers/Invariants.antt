use Rattle.std.proofs.Common.{◌≡◌, ◌++◌, drop}
use Rattle.rl_defs.specs.IdlForms.{spell_more}
use Rattle.rl_defs.specs.DomainForms.{spell_one}
use Rattle.domain_code.proofs.write.put_more_registers.Given as goal

abbrev pub invariant-registers : goal.invariant-registers
invariant-registers l = l.initial.out ++ spell_more spell_one l.registers ≡ l.out ++ spell_more spell_one (drop l.register-index l.registers)
