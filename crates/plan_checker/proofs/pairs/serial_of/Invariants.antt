use Rattle.rl_defs.specs.BundleNames.{serial_given}
use Rattle.plan_checker.proofs.Steps.{NamesTo}
use Rattle.plan_checker.proofs.pairs.serial_of.Given as goal

abbrev pub invariant-lines : goal.invariant-lines
invariant-lines l = NamesTo serial_given l.lines l.line-index l.names
