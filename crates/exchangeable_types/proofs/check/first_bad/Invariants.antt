use Rattle.exchangeable_types.proofs.Checks.{GoodTo}
use Rattle.exchangeable_types.proofs.check.first_bad.Given as goal

abbrev pub invariant-lines : goal.invariant-lines
invariant-lines l = GoodTo l.lines l.line-index
