use Rattle.rl_defs.specs.BundleNames.{client_given}
use Rattle.plan_checker.proofs.Steps.{NamesTo}
use Rattle.plan_checker.proofs.rows.client_names.Given as goal

abbrev pub invariant-lines : goal.invariant-lines
invariant-lines l = NamesTo client_given l.lines l.line-index l.names
