use Rattle.rl_defs.specs.BundleParts.{plan_part, client_part}
use Rattle.rl_text.proofs.PartRules.{one_standing}
use Rattle.bundle_syntax.proofs.PlanLaws.{plan_forms}
use Rattle.bundle_syntax.proofs.ClientLaws.{client_forms}
use Rattle.bundle_syntax.proofs.laws.one_part.Goals as goal

pub returns-clause-plan : goal.returns-clause-plan
returns-clause-plan c = one_standing plan_part plan_forms

pub returns-clause-clients : goal.returns-clause-clients
returns-clause-clients c = one_standing client_part client_forms
