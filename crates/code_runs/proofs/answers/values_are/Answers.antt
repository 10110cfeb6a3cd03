use Rattle.code_runs.specs.Seen.{types_of}
use Rattle.code_runs.proofs.Answering.{values_differ}
use Rattle.code_runs.proofs.answers.values_are.Goals as goal

pub returns-then-kinds-values : goal.returns-then-kinds-values
returns-then-kinds-values c = values_differ (types_of c.args.view.now) c.args.kinds.now c.args.values.now c.if-kinds-values.true
