use Rattle.std.proofs.Common.{◌≡◌, ◌-◌, length}
use Rattle.exchangeable_types.specs.Walk.{IsVisit}
use Rattle.exchangeable_types.proofs.walk.advance.Given as goal

abbrev pub invariant-fields : goal.invariant-fields
invariant-fields l = record {
  visit : IsVisit l.part.lines.now (record { number = l.number; at = l.at; cells = l.cells });
  number : l.number ≡ l.fn.visit.number;
}

abbrev pub decreases-fields : goal.decreases-fields
decreases-fields l = length l.part.lines.now - l.at
