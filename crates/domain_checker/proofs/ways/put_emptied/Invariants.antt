use Rattle.domain_checker.specs.Heads.{Puts}
use Rattle.domain_checker.proofs.ways.put_emptied.Given as goal

abbrev pub invariant-registers : goal.invariant-registers
invariant-registers l = Puts l.kinds l.set l.number l.initial.pool.items l.pool.items
