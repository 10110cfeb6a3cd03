use Rattle.std.proofs.Common.{◌≡◌, ◌++◌, drop}
use Rattle.code_runs.specs.Wants.{registers_from}
use Rattle.code_runs.proofs.text.put_registers.Given as goal

abbrev pub invariant-each : goal.invariant-each
invariant-each l = l.out.items ++ registers_from l.place (drop l.place l.registers) ≡ l.fn.out.items ++ registers_from 0 l.registers
