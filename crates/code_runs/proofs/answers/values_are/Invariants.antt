use Rattle.std.proofs.Common.{◌≡◌, drop}
use Rattle.machine_defs.specs.CodeFits.{are_values}
use Rattle.code_runs.specs.Seen.{types_of}
use Rattle.code_runs.proofs.answers.values_are.Given as goal

abbrev pub invariant-each : goal.invariant-each
invariant-each l = are_values (types_of l.view) (drop l.place l.kinds) (drop l.place l.values) ≡ are_values (types_of l.view) l.kinds l.values
