use Rattle.file_defs.proofs.FileLaws.{honest_disks_keep_blocks}
use Rattle.file_defs.proofs.laws.honest_disks_keep_blocks.Goals as goal

pub returns : goal.returns
returns c = honest_disks_keep_blocks
