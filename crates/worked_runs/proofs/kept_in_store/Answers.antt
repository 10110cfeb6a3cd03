use Rattle.worked_runs.proofs.KeptInStore.{kept_in_store_is_worked}
use Rattle.worked_runs.proofs.kept_in_store.Goals as goal

pub returns : goal.returns
returns c = kept_in_store_is_worked
