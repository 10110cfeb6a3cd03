use Rattle.bundle_format.proofs.Fares.{refused_at}
use Rattle.bundle_format.proofs.format.format_bundle.Goals as goal

pub returns-in-Err-Refused-clause-fault : goal.returns-in-Err-Refused-clause-fault
returns-in-Err-Refused-clause-fault c = rw c.in-Err-Refused.field-0-is (refused_at c.args.bytes.now _ _ (rw c.in-Err-Refused.field-0-is at c.in-Err-Refused.ensures.reads))
