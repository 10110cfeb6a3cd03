use Rattle.std.proofs.Common.{◌-◌, length}
use Rattle.domain_machine.proofs.Going.{RanTo}
use Rattle.domain_machine.proofs.world.World.finish.Given as goal

-- the turns so far were in order, and the next is looked for from the place on
abbrev pub invariant-rounds : goal.invariant-rounds
invariant-rounds l = RanTo l.fn.self l.self l.place

abbrev pub decreases-rounds : goal.decreases-rounds
decreases-rounds l = 262144 - length l.self.log
