use Rattle.block_domain.proofs.Written.{store_told}
use Rattle.block_domain.proofs.laws.blocks_hold_what_was_written.Goals as goal

pub returns : goal.returns
returns c = store_told
