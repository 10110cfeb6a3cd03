use Rattle.std.proofs.Common.{◌≡◌, drop, map}
use Rattle.machine_defs.specs.Arguments.{value_of}
use Rattle.machine_defs.specs.CodeFits.{are_values}
use Rattle.code_runs.specs.Seen.{types_of}
use Rattle.code_runs.proofs.answers.args_are.Given as goal

abbrev pub invariant-each : goal.invariant-each
invariant-each l = are_values (types_of l.view) (drop l.place l.kinds) (map value_of (drop l.place l.args)) ≡ are_values (types_of l.view) l.kinds (map value_of l.args)
