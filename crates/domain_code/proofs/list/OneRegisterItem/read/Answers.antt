use Rattle.domain_code.specs.Operands.{register_at}
use Rattle.rl_text.proofs.ManyLaws.{leaves_fewer}
use Rattle.domain_code.proofs.OperandLaws.{register_shortens}
use Rattle.domain_code.proofs.list.OneRegisterItem.read.Goals as goal

pub returns-clause-fewer : goal.returns-clause-fewer
returns-clause-fewer c = leaves_fewer register_at register_shortens _ _ _ c.register.ensures
