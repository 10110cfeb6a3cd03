use Rattle.std.proofs.Common.{◌≡◌, ◌+◌, ◌*◌, length, Some}
use Rattle.std.specs.Prelude.{slice_get}
use Rattle.exchangeable_types.specs.declared.walk.State.TheVariants.{New}
use Rattle.exchangeable_types.specs.Walk.{Walking, StaysVisited, fresh}
use Rattle.exchangeable_types.proofs.walk.visit_from.Given as goal

abbrev pub invariant-walk : goal.invariant-walk
invariant-walk l = record {
  walking : Walking l.part.lines.now l.states.items l.stack.items;
  visited : StaysVisited l.fn.states.items l.states.items;
  here : slice_get l.states.items l.fn.number ≡ Some New → ⊥;
}

abbrev pub decreases-walk : goal.decreases-walk
decreases-walk l = 2 * fresh l.states.items + length l.stack.items
