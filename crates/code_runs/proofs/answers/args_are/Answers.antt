use Rattle.code_runs.specs.Seen.{types_of}
use Rattle.code_runs.proofs.Answering.{args_differ}
use Rattle.code_runs.proofs.answers.args_are.Goals as goal

pub returns-then-kinds-args : goal.returns-then-kinds-args
returns-then-kinds-args c = args_differ (types_of c.args.view.now) c.args.kinds.now c.args.args.now c.if-kinds-args.true
