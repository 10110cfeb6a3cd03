use Rattle.std.proofs.Common.{◌≡◌, drop}
use Rattle.machine_defs.specs.Instructions.{all_given_up}
use Rattle.code_machine.proofs.answer.give_up_all.Given as goal

abbrev pub invariant-each : goal.invariant-each
invariant-each l = all_given_up (drop l.register-index l.from) l.registers ≡ all_given_up l.from l.initial.registers
