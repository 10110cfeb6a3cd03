-- Who comes next in going round the order list.
use Rattle.std.proofs.Common.{◌≡◌, ◌∙◌, ℕ, ◌+◌, ◌-◌, ◌%◌, ◌<◌, ◌≤◌, List, Option, Some, None, true, false, length, slice_index, ap, refl, arith}
use Rattle.rl_defs.specs.declared.load.LoadRows.{LoadRows}
use Rattle.machine_defs.specs.State.{State}
use Rattle.machine_defs.specs.Calling.{is_enabled}
use Rattle.machine_defs.specs.Runs.{order_of, next_turn, turn_at}
use Rattle.turn_order.specs.Rounds.{round_from, ComesNext, NobodyEnabled}
use Rattle.turn_order.proofs.Going.{length-round, position_is, position_none}

-- where the first clients from a place on aren't enabled and the one behind them is, it comes next
pub comes_next : (L : LoadRows) (s : State) (place step : ℕ) → ComesNext L s place step
    → next_turn L s place ≡ Some (slice_index (round_from (order_of L) place) step, (place + step + 1) % length (order_of L))
comes_next L s place step next =
    let all : length (round_from (order_of L) place) ≡ length (order_of L) = length-round (order_of L) place next.within in
    let near : step < length (round_from (order_of L) place) = omega (arith, next.near) in
    ap (turn_at (order_of L) place) (position_is (is_enabled L s) (round_from (order_of L) place) step 0 near next.enabled next.others)

-- where no client is enabled, none comes next
pub nobody_next : (L : LoadRows) (s : State) (place : ℕ) → NobodyEnabled L s place → next_turn L s place ≡ None
nobody_next L s place nobody =
    let all : length (round_from (order_of L) place) ≡ length (order_of L) = length-round (order_of L) place nobody.within in
    ap (turn_at (order_of L) place) (position_none (is_enabled L s) (round_from (order_of L) place) 0
    (λ (i : ℕ) (below : i < length (round_from (order_of L) place)). nobody.others i (omega (arith, below))))
