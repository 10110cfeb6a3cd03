use Rattle.idl_syntax.proofs.IdlLaws.{interface_forms}
use Rattle.idl_syntax.proofs.laws.one_form.Goals as goal

pub returns-clause-form : goal.returns-clause-form
returns-clause-form c = interface_forms.one

pub returns-clause-skipped : goal.returns-clause-skipped
returns-clause-skipped c = interface_forms.skipped
