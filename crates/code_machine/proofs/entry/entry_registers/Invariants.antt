use Rattle.std.proofs.Common.{◌≡◌, ◌≤◌, ◌-◌, ◌++◌, length, map, take, Some, None}
use Rattle.std.specs.Prelude.{replicate}
use Rattle.machine_defs.specs.Arguments.{value_of}
use Rattle.code_machine.proofs.entry.entry_registers.Given as goal

abbrev pub invariant-each : goal.invariant-each
invariant-each l = record {
  so_far : l.registers ≡ map (λ a. Some (value_of a)) (take l.place l.args) ++ replicate (32 - l.place) None;
  few : length l.args ≤ 32;
}
