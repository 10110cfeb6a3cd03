use Rattle.rl_text.specs.Reading.{name_at}
use Rattle.rl_text.proofs.ManyLaws.{leaves_fewer}
use Rattle.bundle_syntax.proofs.Readings.{name_shortens}
use Rattle.bundle_syntax.proofs.list.OneNameItem.read.Goals as goal

pub returns-clause-fewer : goal.returns-clause-fewer
returns-clause-fewer c = leaves_fewer name_at name_shortens _ _ _ c.name.ensures
