use Rattle.step_laws.proofs.Loans.{loans_follow}
use Rattle.step_laws.proofs.loans_of_steps.Goals as goal

pub returns : goal.returns
returns c = loans_follow
