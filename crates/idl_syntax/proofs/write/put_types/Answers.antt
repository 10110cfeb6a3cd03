use Rattle.std.proofs.Common.{arith}
use Rattle.rl_defs.specs.IdlForms.{spell_type}
use Rattle.rl_text.proofs.MoreLaws.{more_step, more_all}
use Rattle.idl_syntax.proofs.write.put_types.Goals as goal

pub types-preserved : goal.types-preserved
types-preserved c = more_step spell_type c.args.types.now c.types.ty-index c.ty-item.result _ c.types.out _ _ (omega arith) c.ty-item.is c.types.invariant c.in_ok-mark.ensures c.in_ok-put_type.ensures

pub returns : goal.returns
returns c = more_all spell_type c.args.types.now c.types.ty-index _ c.types.out (omega arith) c.types.invariant
