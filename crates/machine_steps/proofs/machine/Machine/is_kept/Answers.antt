use Rattle.std.proofs.Common.{◌≤◌, length, subst}
use Rattle.machine_steps.specs.Kept.{Kept}
use Rattle.machine_steps.proofs.Sizes.{few_entries}
use Rattle.machine_steps.proofs.machine.Machine.is_kept.Goals as goal

pub returns-clause-few : goal.returns-clause-few
returns-clause-few c = subst (λ (w : Kept). length w.log ≤ 327680) c.self.view_is (few_entries c.laws.ensures c.self.invariant)
