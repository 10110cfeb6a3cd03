use Rattle.std.proofs.Common.{◌≡◌, drop}
use Rattle.rl_defs.specs.CodeKinds.{passed}
use Rattle.machine_defs.specs.Instructions.{all_given_up}
use Rattle.code_machine.proofs.answer.give_up_passed.Given as goal

abbrev pub invariant-each : goal.invariant-each
invariant-each l = all_given_up (passed (drop l.arg-index l.args)) l.registers ≡ all_given_up (passed l.args) l.initial.registers
