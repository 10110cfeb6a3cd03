use Rattle.bundle_syntax.proofs.PlanLaws.{plan_forms}
use Rattle.bundle_syntax.proofs.ClientLaws.{client_forms}
use Rattle.bundle_parts.proofs.OneBundle as one
use Rattle.bundle_parts.proofs.laws.one_bundle.Goals as goal

pub returns : goal.returns
returns c = one.one_bundle plan_forms client_forms
