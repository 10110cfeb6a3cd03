use Rattle.std.proofs.Common.{◌≡◌, ◌++◌, filter, not}
use Rattle.std.specs.List.{range_with_len}
use Rattle.turn_order.specs.Rounds.{is_on}
use Rattle.turn_order.proofs.order.put_others.Given as goal

abbrev pub invariant-others : goal.invariant-others
invariant-others l = l.clients.items ≡ l.initial.clients.items ++ filter (λ t. not (is_on l.named t)) (range_with_len 1 l.place)
