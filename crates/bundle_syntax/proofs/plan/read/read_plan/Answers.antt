use Rattle.bundle_syntax.proofs.PlanLaws.{reading}
use Rattle.bundle_syntax.proofs.plan.read.read_plan.Goals as goal

pub read_lines-requires-clause-reading : goal.read_lines-requires-clause-reading
read_lines-requires-clause-reading c = reading
