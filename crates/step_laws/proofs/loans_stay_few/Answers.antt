use Rattle.step_laws.proofs.Lending.{runs_lend_few, rows_lend_few}
use Rattle.step_laws.proofs.loans_stay_few.Goals as goal

pub returns : goal.returns
returns c = record { runs = runs_lend_few; rows = rows_lend_few }
