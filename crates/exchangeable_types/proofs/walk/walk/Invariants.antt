use Rattle.exchangeable_types.specs.Walk.{WalkedTo}
use Rattle.exchangeable_types.proofs.walk.walk.Given as goal

abbrev pub invariant-structs : goal.invariant-structs
invariant-structs l = WalkedTo l.part.lines.now l.states.items l.number
