-- The laws that the steps rest on.
use Rattle.machine_defs.specs.Laws.{StatesAreSound}
use Rattle.step_laws.specs.StepLaws.{QuietStepsFreeNothing, KillsAgainFreeNothing, ObjectsStayFew, StepsCountUp, RunsCountUp, LoansOfSteps, RunsLendFew, RowsLendFew, EntriesNameRoots, DoomedAreFreed, ObjectsAreFound, EndsFree, DropsFree, ReturnsFree}

-- what holds of every state of every run, and what one step of it counts, lends, names and frees
pub record Known : Type 0 where
  pub sound : StatesAreSound
  pub quiet : QuietStepsFreeNothing
  pub again : KillsAgainFreeNothing
  pub few : ObjectsStayFew
  pub counts : StepsCountUp
  pub numbers : RunsCountUp
  pub loans : LoansOfSteps
  pub lent : RunsLendFew
  pub rows_lend : RowsLendFew
  pub roots : EntriesNameRoots
  pub doomed : DoomedAreFreed
  pub found : ObjectsAreFound
  pub ends : EndsFree
  pub drops : DropsFree
  pub returns : ReturnsFree
