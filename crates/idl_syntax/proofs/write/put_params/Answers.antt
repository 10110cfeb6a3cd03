use Rattle.std.proofs.Common.{arith}
use Rattle.rl_defs.specs.IdlForms.{spell_param}
use Rattle.rl_text.proofs.MoreLaws.{more_step, more_all}
use Rattle.idl_syntax.proofs.write.put_params.Goals as goal

pub params-preserved : goal.params-preserved
params-preserved c = more_step spell_param c.args.params.now c.params.param-index c.param-item.result _ c.params.out _ _ (omega arith) c.param-item.is c.params.invariant c.in_ok-mark.ensures c.in_ok-put_param.ensures

pub returns : goal.returns
returns c = more_all spell_param c.args.params.now c.params.param-index _ c.params.out (omega arith) c.params.invariant
