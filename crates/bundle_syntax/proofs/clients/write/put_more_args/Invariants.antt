use Rattle.std.proofs.Common.{◌≡◌, ◌++◌, drop}
use Rattle.rl_defs.specs.IdlForms.{spell_more}
use Rattle.rl_defs.specs.BundleForms.{spell_arg}
use Rattle.bundle_syntax.proofs.clients.write.put_more_args.Given as goal

abbrev pub invariant-arguments : goal.invariant-arguments
invariant-arguments l = l.initial.out ++ spell_more spell_arg l.args ≡ l.out ++ spell_more spell_arg (drop l.arg-index l.args)
