use Rattle.machine_defs.proofs.CodeEntries.{entries_fit}
use Rattle.machine_defs.proofs.laws.entries_fit.Goals as goal

pub returns : goal.returns
returns c = entries_fit
