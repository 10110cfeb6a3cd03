use Rattle.domain_code.specs.Lists.{arg_at}
use Rattle.rl_text.proofs.ManyLaws.{leaves_fewer}
use Rattle.domain_code.proofs.ListLaws.{arg_shortens}
use Rattle.domain_code.proofs.list.OneArgItem.read.Goals as goal

pub returns-clause-fewer : goal.returns-clause-fewer
returns-clause-fewer c = leaves_fewer arg_at arg_shortens _ _ _ c.arg.ensures
