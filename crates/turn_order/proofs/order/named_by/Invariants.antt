use Rattle.std.proofs.Common.{◌≡◌, ℕ, ◌≤◌, ◌==◌, take, length}
use Rattle.std.specs.List.{list_any}
use Rattle.turn_order.specs.Rounds.{is_on}
use Rattle.turn_order.proofs.order.named_by.Given as goal

abbrev pub invariant-clients : goal.invariant-clients
invariant-clients l = record {
  named : (t : ℕ) → 1 ≤ t → t ≤ 16 → is_on l.named t ≡ list_any (λ u. u == t) (take l.client-index l.order);
  count : length l.named ≡ 16;
}
