use Rattle.fs_layout.proofs.ReadAgain.{inode_is_read_again}
use Rattle.fs_layout.proofs.laws.inode_is_read_again.Goals as goal

pub returns : goal.returns
returns c = inode_is_read_again
