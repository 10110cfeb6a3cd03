use Rattle.std.proofs.Common.{◌≡◌, ◌++◌, drop}
use Rattle.rl_defs.specs.IdlForms.{spell_more}
use Rattle.rl_defs.specs.BundleForms.{spell_name}
use Rattle.bundle_syntax.proofs.list.put_more_names.Given as goal

abbrev pub invariant-names : goal.invariant-names
invariant-names l = l.initial.out ++ spell_more spell_name l.names ≡ l.out ++ spell_more spell_name (drop l.name-index l.names)
