use Rattle.std.proofs.Common.{◌≡◌, ℕ, ◌≤◌, ◌<◌, false, slice_index_or}
use Rattle.turn_order.specs.Rounds.{is_on}
use Rattle.turn_order.proofs.enabled.first_on.Given as goal

abbrev pub invariant-places : goal.invariant-places
invariant-places l = (k : ℕ) → l.from ≤ k → k < l.place → is_on l.enabled (slice_index_or l.order k 0) ≡ false
