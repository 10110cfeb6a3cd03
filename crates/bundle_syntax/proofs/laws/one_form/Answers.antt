use Rattle.bundle_syntax.proofs.PlanLaws.{plan_forms}
use Rattle.bundle_syntax.proofs.ClientLaws.{client_forms}
use Rattle.bundle_syntax.proofs.laws.one_form.Goals as goal

pub returns-clause-plan : goal.returns-clause-plan
returns-clause-plan c = plan_forms.one

pub returns-clause-plan_skipped : goal.returns-clause-plan_skipped
returns-clause-plan_skipped c = plan_forms.skipped

pub returns-clause-clients : goal.returns-clause-clients
returns-clause-clients c = client_forms.one

pub returns-clause-clients_skipped : goal.returns-clause-clients_skipped
returns-clause-clients_skipped c = client_forms.skipped
