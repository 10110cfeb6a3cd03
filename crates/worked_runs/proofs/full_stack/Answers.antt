use Rattle.worked_runs.proofs.FullStack.{full_stack_is_worked}
use Rattle.worked_runs.proofs.full_stack.Goals as goal

pub returns : goal.returns
returns c = full_stack_is_worked
