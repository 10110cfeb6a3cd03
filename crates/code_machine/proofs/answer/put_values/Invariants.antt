use Rattle.std.proofs.Common.{◌≡◌, drop}
use Rattle.machine_defs.specs.Instructions.{put_values}
use Rattle.code_machine.proofs.answer.put_values.Given as goal

abbrev pub invariant-each : goal.invariant-each
invariant-each l = put_values (drop l.place l.to) (drop l.place l.values) l.registers ≡ put_values l.to l.values l.initial.registers
