use Rattle.domain_code.proofs.DomainLaws as laws
use Rattle.domain_code.proofs.laws.one_form.Goals as goal

pub returns-clause-form : goal.returns-clause-form
returns-clause-form c = laws.one_form

pub returns-clause-skipped : goal.returns-clause-skipped
returns-clause-skipped c = laws.skipped_no_form
