use Rattle.std.proofs.Common.{◌≡◌, ◌++◌, take}
use Rattle.code_runs.specs.Wants.{args_text}
use Rattle.code_runs.proofs.text.put_args.Given as goal

abbrev pub invariant-each : goal.invariant-each
invariant-each l = l.out.items ≡ l.fn.out.items ++ args_text (take l.arg-index l.args)
