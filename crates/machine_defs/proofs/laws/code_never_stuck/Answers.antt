use Rattle.machine_defs.proofs.CodeSafe.{never_stuck}
use Rattle.machine_defs.proofs.laws.code_never_stuck.Goals as goal

pub returns : goal.returns
returns c = never_stuck
