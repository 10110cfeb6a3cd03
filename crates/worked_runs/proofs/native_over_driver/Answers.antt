use Rattle.worked_runs.proofs.NativeOverDriver.{native_over_driver_is_worked}
use Rattle.worked_runs.proofs.native_over_driver.Goals as goal

pub returns : goal.returns
returns c = native_over_driver_is_worked
