use Rattle.rl_defs.specs.BundleNames.{load_given, domains_loaded}
use Rattle.plan_checker.proofs.Pairing.{PairsTo}
use Rattle.plan_checker.proofs.pairs.loads_of.Given as goal

abbrev pub invariant-lines : goal.invariant-lines
invariant-lines l = PairsTo load_given domains_loaded l.lines l.line-index l.pairs.names l.pairs.others
