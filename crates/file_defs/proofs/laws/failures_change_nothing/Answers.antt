use Rattle.file_defs.proofs.FileLaws.{failures_change_nothing}
use Rattle.file_defs.proofs.laws.failures_change_nothing.Goals as goal

pub returns : goal.returns
returns c = failures_change_nothing
