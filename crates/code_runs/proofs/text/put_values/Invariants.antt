use Rattle.std.proofs.Common.{◌≡◌, ◌++◌, take}
use Rattle.code_runs.specs.Wants.{values_text}
use Rattle.code_runs.proofs.text.put_values.Given as goal

abbrev pub invariant-each : goal.invariant-each
invariant-each l = l.out.items ≡ l.fn.out.items ++ values_text (take l.value-index l.values)
