use Rattle.std.proofs.Common.{◌≡◌, ◌≤◌, length, map, take}
use Rattle.machine_defs.specs.Instructions.{given_by}
use Rattle.code_machine.proofs.registers.given.Given as goal

abbrev pub invariant-each : goal.invariant-each
invariant-each l = record {
  so_far : l.all ≡ map (given_by l.registers) (take l.arg-index l.args);
  few : length l.args ≤ 8;
}
