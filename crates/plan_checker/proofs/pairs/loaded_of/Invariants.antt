use Rattle.rl_defs.specs.BundleNames.{domains_loaded}
use Rattle.plan_checker.proofs.Steps.{NamesTo}
use Rattle.plan_checker.proofs.pairs.loaded_of.Given as goal

abbrev pub invariant-lines : goal.invariant-lines
invariant-lines l = NamesTo domains_loaded l.lines l.line-index l.names
