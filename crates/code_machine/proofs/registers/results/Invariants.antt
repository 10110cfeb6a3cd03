use Rattle.std.proofs.Common.{◌≡◌, ◌≤◌, length, map, take}
use Rattle.machine_defs.specs.Instructions.{result_in}
use Rattle.code_machine.proofs.registers.results.Given as goal

abbrev pub invariant-each : goal.invariant-each
invariant-each l = record {
  so_far : l.all ≡ map (result_in l.registers) (take l.register-index l.from);
  few : length l.from ≤ 4;
}
