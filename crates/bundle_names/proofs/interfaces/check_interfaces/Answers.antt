use Rattle.std.proofs.Common.{subst}
use Rattle.rl_defs.specs.Refusals.{Answers}
use Rattle.rl_defs.specs.Interfaces.{Lines}
use Rattle.rl_defs.specs.NameRules.{FailsNames}
use Rattle.bundle_names.proofs.interfaces.check_interfaces.Goals as goal

pub returns : goal.returns
returns c = subst (λ (ls : Lines). Answers {X = Unit {0}} (FailsNames (record { lines = ls })) (λ _. Unit {0}) c.first_fault.result) c.as_slice-lines.ensures c.first_fault.ensures
