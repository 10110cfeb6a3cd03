use Rattle.step_laws.proofs.Counting.{objects_few}
use Rattle.step_laws.proofs.objects_stay_few.Goals as goal

pub returns : goal.returns
returns c = objects_few
