use Rattle.idl_syntax.specs.Lines.{param_at}
use Rattle.rl_text.proofs.ManyLaws.{leaves_fewer}
use Rattle.idl_syntax.proofs.PartTakes.{param_shortens}
use Rattle.idl_syntax.proofs.list.OneParamItem.read.Goals as goal

pub returns-clause-fewer : goal.returns-clause-fewer
returns-clause-fewer c = leaves_fewer param_at param_shortens _ _ _ c.param.ensures
