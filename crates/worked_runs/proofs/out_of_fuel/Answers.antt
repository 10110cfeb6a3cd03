use Rattle.worked_runs.proofs.OutOfFuel.{out_of_fuel_is_worked}
use Rattle.worked_runs.proofs.out_of_fuel.Goals as goal

pub returns : goal.returns
returns c = out_of_fuel_is_worked
