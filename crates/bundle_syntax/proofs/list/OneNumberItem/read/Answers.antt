use Rattle.rl_text.specs.Reading.{number_at}
use Rattle.rl_text.proofs.ManyLaws.{leaves_fewer}
use Rattle.bundle_syntax.proofs.Readings.{number_shortens}
use Rattle.bundle_syntax.proofs.list.OneNumberItem.read.Goals as goal

pub returns-clause-fewer : goal.returns-clause-fewer
returns-clause-fewer c = leaves_fewer number_at number_shortens _ _ _ c.number.ensures
