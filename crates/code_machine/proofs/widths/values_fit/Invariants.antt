use Rattle.std.proofs.Common.{◌≡◌, drop}
use Rattle.machine_defs.specs.Instructions.{values_fit}
use Rattle.code_machine.proofs.widths.values_fit.Given as goal

abbrev pub invariant-each : goal.invariant-each
invariant-each l = values_fit (drop l.place l.kinds) (drop l.place l.values) ≡ values_fit l.kinds l.values
