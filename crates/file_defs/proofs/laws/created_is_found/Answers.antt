use Rattle.file_defs.proofs.Created.{created_is_found}
use Rattle.file_defs.proofs.laws.created_is_found.Goals as goal

pub returns : goal.returns
returns c = created_is_found
