use Rattle.fs_layout.proofs.ReadAgain.{super_is_read_again}
use Rattle.fs_layout.proofs.laws.super_is_read_again.Goals as goal

pub returns : goal.returns
returns c = super_is_read_again
