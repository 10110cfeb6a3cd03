use Rattle.std.proofs.Common.{◌≡◌, ◌++◌, drop}
use Rattle.rl_defs.specs.IdlForms.{spell_more, spell_param}
use Rattle.idl_syntax.proofs.write.put_params.Given as goal

abbrev pub invariant-params : goal.invariant-params
invariant-params l = l.initial.out ++ spell_more spell_param l.params ≡ l.out ++ spell_more spell_param (drop l.param-index l.params)
