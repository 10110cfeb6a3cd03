use Rattle.block_domain.proofs.ReadLaw.{reads_give}
use Rattle.block_domain.proofs.laws.reads_give_what_was_written.Goals as goal

pub returns : goal.returns
returns c = reads_give
