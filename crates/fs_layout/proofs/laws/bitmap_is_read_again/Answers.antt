use Rattle.fs_layout.proofs.ReadAgain.{bitmap_is_read_again}
use Rattle.fs_layout.proofs.laws.bitmap_is_read_again.Goals as goal

pub returns : goal.returns
returns c = bitmap_is_read_again
