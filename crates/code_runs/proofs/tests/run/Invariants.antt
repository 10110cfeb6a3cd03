use Rattle.machine_defs.specs.CodeFits.{FitsStand, stand_of}
use Rattle.code_runs.specs.Seen.{types_of}
use Rattle.code_runs.proofs.tests.run.Given as goal

abbrev pub invariant-answers : goal.invariant-answers
invariant-answers l = FitsStand (types_of l.view) l.domain (stand_of l.frame.body)
