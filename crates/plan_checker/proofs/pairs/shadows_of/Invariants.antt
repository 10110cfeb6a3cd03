use Rattle.rl_defs.specs.BundleNames.{shadow_given, shadowed}
use Rattle.plan_checker.proofs.Pairing.{PairsTo}
use Rattle.plan_checker.proofs.pairs.shadows_of.Given as goal

abbrev pub invariant-lines : goal.invariant-lines
invariant-lines l = PairsTo shadow_given shadowed l.lines l.line-index l.pairs.names l.pairs.others
