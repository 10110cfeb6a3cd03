use Rattle.rl_text.proofs.ManyLaws.{leaves_fewer}
use Rattle.bundle_syntax.specs.ClientLines.{arg_at}
use Rattle.bundle_syntax.proofs.ClientTakes.{arg_shortens}
use Rattle.bundle_syntax.proofs.clients.arg.OneArgItem.read.Goals as goal

pub returns-clause-fewer : goal.returns-clause-fewer
returns-clause-fewer c = leaves_fewer arg_at arg_shortens _ _ _ c.arg.ensures
