use Rattle.idl_syntax.specs.Lines.{whole_type_at}
use Rattle.rl_text.proofs.ManyLaws.{leaves_fewer}
use Rattle.idl_syntax.proofs.PartTakes.{whole_type_shortens}
use Rattle.idl_syntax.proofs.list.OneTypeItem.read.Goals as goal

pub returns-clause-fewer : goal.returns-clause-fewer
returns-clause-fewer c = leaves_fewer whole_type_at whole_type_shortens _ _ _ c.whole_type.ensures
