use Rattle.std.proofs.Common.{◌≡◌, ◌++◌, drop}
use Rattle.rl_defs.specs.IdlForms.{spell_more, spell_type}
use Rattle.idl_syntax.proofs.write.put_types.Given as goal

abbrev pub invariant-types : goal.invariant-types
invariant-types l = l.initial.out ++ spell_more spell_type l.types ≡ l.out ++ spell_more spell_type (drop l.ty-index l.types)
