use Rattle.rl_defs.specs.Lines.{lines_of}
use Rattle.bundle_syntax.proofs.PlanLaws.{plan_forms}
use Rattle.bundle_syntax.proofs.ClientLaws.{client_forms}
use Rattle.bundle_parts.proofs.OneBundle.{one_bundle}
use Rattle.domain_loader.proofs.Accepting.{behind_forms, forms_refused}
use Rattle.domain_loader.proofs.load.load_rows.Goals as goal

pub returns-in-Ok : goal.returns-in-Ok
returns-in-Ok c = behind_forms c.args.bytes.now c.in-Ok.bundle c.load_bundle.result (λ b is. one_bundle plan_forms client_forms (lines_of c.args.bytes.now) b c.in-Ok.bundle is c.in-Ok.ensures.reads.1 c.in-Ok.ensures.reads.0) c.in-Ok.ensures.reads.0 c.in-Ok.ensures.reads.1 c.load_bundle.ensures

pub returns-in-Err : goal.returns-in-Err
returns-in-Err c = forms_refused c.args.bytes.now c.in-Err.fault c.in-Err.ensures.reads
