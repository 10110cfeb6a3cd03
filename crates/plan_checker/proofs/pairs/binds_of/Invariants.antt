use Rattle.indexmap.specs.IndexMap.{get}
use Rattle.plan_checker.specs.Tables.{same_pair}
use Rattle.plan_checker.proofs.Pairing.{BindsTo}
use Rattle.plan_checker.proofs.pairs.binds_of.Given as goal

abbrev pub invariant-lines : goal.invariant-lines
invariant-lines l = BindsTo (λ q r. get same_pair l.binds (q, r)) l.lines l.line-index
