-- Going round a list.
use Rattle.std.specs.Prelude.{◌≡◌, ℕ, ◌+◌, ◌-◌, ◌%◌, ◌<◌, ◌≤◌, ◌++◌, List, Option, Some, None, Bool, true, false, length, take, drop, position, slice_index}
use Rattle.std.specs.List.{slice_index_or}
use Rattle.rl_defs.specs.declared.load.LoadRows.{LoadRows}
use Rattle.machine_defs.specs.State.{State}
use Rattle.machine_defs.specs.Calling.{is_enabled}
use Rattle.machine_defs.specs.Runs.{order_of}

-- the list from a place on, and then from its start up to that place
abbrev pub round_from : {A : Type 0} → List A → ℕ → List A
round_from xs place = drop place xs ++ take place xs

-- whether a client is enabled, of whom the list says so at the place before its number
abbrev pub is_on : List Bool → ℕ → Bool
is_on enabled t = slice_index_or enabled (t - 1) false

-- the place that is so many steps on, going round
abbrev pub place_round : {A : Type 0} → List A → ℕ → Option ℕ → Option ℕ
place_round xs place None = None
place_round xs place (Some step) = Some ((place + step) % length xs)

-- the first place from a place on, going round, whose client is enabled
abbrev pub next_place : List ℕ → List Bool → ℕ → Option ℕ
next_place order enabled from = place_round order from (position (is_on enabled) (round_from order from))

-- From a place of the order list on, the first clients aren't enabled, so many of them, and the one
-- behind them is.
pub record ComesNext (L : LoadRows) (s : State) (place step : ℕ) : Type 0 where
  pub within : place ≤ length (order_of L)
  pub near : step < length (order_of L)
  pub enabled : is_enabled L s (slice_index (round_from (order_of L) place) step) ≡ true
  pub others : (k : ℕ) → k < step → is_enabled L s (slice_index (round_from (order_of L) place) k) ≡ false

-- No client of the order list is enabled.
pub record NobodyEnabled (L : LoadRows) (s : State) (place : ℕ) : Type 0 where
  pub within : place ≤ length (order_of L)
  pub others : (k : ℕ) → k < length (order_of L) → is_enabled L s (slice_index (round_from (order_of L) place) k) ≡ false
