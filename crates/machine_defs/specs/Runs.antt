-- Runs of the machine.
use Rattle.std.specs.Prelude.{◌≡◌, ℕ, ◌+◌, ◌%◌, ◌==◌, [], ◌++◌, ◌∷◌, true, All, not, List, length, filter, take, drop, slice_index, Option, Some, None, map, position}
use Rattle.std.specs.List.{list_any, range_with_len}
use Rattle.machine_defs.specs.declared.entry.Entry.TheVariants as entry
use Rattle.rl_defs.specs.declared.load.LoadRows.{LoadRows}
use Rattle.machine_defs.specs.declared.entry.Entry.{Entry}
use Rattle.machine_defs.specs.State.{State, start}
use Rattle.machine_defs.specs.Steps.{Turn, Step}
use Rattle.machine_defs.specs.Calling.{is_enabled}
use Rattle.machine_defs.specs.Entries.{thread_of}

-- every client is done
abbrev pub AllDone : State → Type 0
AllDone s = All (λ thread. thread.done ≡ true) s.threads

-- the order list: the clients that the plan's order names, and then the others in the order of the
-- text
abbrev pub order_of : LoadRows → List ℕ
order_of L = L.order ++ filter (λ t. not (list_any (λ u. u == t) L.order)) (range_with_len 1 (length L.clients))

-- from a place of the list on, the client that stands this far round it, and the place after its
-- own
abbrev pub turn_at : List ℕ → ℕ → Option ℕ → Option (ℕ × ℕ)
turn_at order place None = None
turn_at order place (Some k) = Some (slice_index (drop place order ++ take place order) k, (place + k + 1) % length order)

-- the entries of a turn
abbrev pub entries_of_turn : Turn → List Entry
entries_of_turn turn = turn.entry ∷ map entry.Free turn.frees

-- A run: the entries lead, turn by turn, from the start to this state.
pub data Run (L : LoadRows) : List Entry → State → Type 0 where
  Begins : {H : List Entry} {s : State} → H ≡ [] → s ≡ start L → Run L H s
  GoesOn : {G H : List Entry} {s z : State} (turn : Turn) → Run L G s → Step L s turn z → H ≡ G ++ entries_of_turn turn → Run L H z

-- a run in which every client came to the end of its script
pub record WholeRun (L : LoadRows) (H : List Entry) (s : State) : Type 0 where
  pub run : Run L H s
  pub done : AllDone s

-- going round the order list from a place on: the first client that is enabled, and the place after
-- its own
abbrev pub next_turn : LoadRows → State → ℕ → Option (ℕ × ℕ)
next_turn L s place = turn_at (order_of L) place (position (λ t. is_enabled L s t) (drop place (order_of L) ++ take place (order_of L)))

-- The entries lead from a state on, each turn by the client that comes next in going round the
-- order list from its first place.
pub data Ordered (L : LoadRows) (from : State) : List Entry → State → ℕ → Type 0 where
  Stays : {H : List Entry} {s : State} {place : ℕ} → H ≡ [] → s ≡ from → place ≡ 0 → Ordered L from H s place
  Turns : {G H : List Entry} {s z : State} {place : ℕ} (turn : Turn) (next : ℕ) → Ordered L from G s place → next_turn L s place ≡ Some (thread_of turn.entry, next) → Step L s turn z → H ≡ G ++ entries_of_turn turn → Ordered L from H z next

-- a run whose turns are in that order
pub record OrderRun (L : LoadRows) (H : List Entry) (s : State) : Type 0 where
  pub place : ℕ
  pub ordered : Ordered L (start L) H s place
