use Rattle.turn_order.proofs.Rounds.{comes_next, nobody_next}
use Rattle.turn_order.proofs.laws.first_enabled_comes_next.Goals as goal

pub returns : goal.returns
returns c = record { some = comes_next; none = nobody_next }
