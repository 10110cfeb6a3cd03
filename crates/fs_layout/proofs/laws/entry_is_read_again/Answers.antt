use Rattle.fs_layout.proofs.ReadAgain.{entry_is_read_again}
use Rattle.fs_layout.proofs.laws.entry_is_read_again.Goals as goal

pub returns : goal.returns
returns c = entry_is_read_again
