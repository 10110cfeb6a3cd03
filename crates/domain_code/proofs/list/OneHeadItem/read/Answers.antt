use Rattle.domain_code.specs.Lists.{head_at}
use Rattle.rl_text.proofs.ManyLaws.{leaves_fewer}
use Rattle.domain_code.proofs.ListLaws.{head_shortens}
use Rattle.domain_code.proofs.list.OneHeadItem.read.Goals as goal

pub returns-clause-fewer : goal.returns-clause-fewer
returns-clause-fewer c = leaves_fewer head_at head_shortens _ _ _ c.head.ensures
