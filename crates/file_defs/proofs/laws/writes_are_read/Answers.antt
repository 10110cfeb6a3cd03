use Rattle.file_defs.proofs.FileLaws.{writes_are_read}
use Rattle.file_defs.proofs.laws.writes_are_read.Goals as goal

pub returns : goal.returns
returns c = writes_are_read
