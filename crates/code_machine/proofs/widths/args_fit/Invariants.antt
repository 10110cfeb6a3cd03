use Rattle.std.proofs.Common.{◌≡◌, drop}
use Rattle.machine_defs.specs.Instructions.{args_fit}
use Rattle.code_machine.proofs.widths.args_fit.Given as goal

abbrev pub invariant-each : goal.invariant-each
invariant-each l = args_fit (drop l.place l.kinds) (drop l.place l.args) ≡ args_fit l.kinds l.args
