use Rattle.machine_defs.proofs.CodeSafe.{settles}
use Rattle.machine_defs.proofs.laws.code_settles.Goals as goal

pub returns : goal.returns
returns c = settles
