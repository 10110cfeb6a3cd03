-- What is freed has a cause.
use Rattle.std.specs.Prelude.{filter, ◌≡◌, ℕ, ◌==◌, ◌&&◌, ◌||◌, [], ◌∷◌, not, Bool, List}
use Rattle.std.specs.List.{range_with_len}
use Rattle.rl_defs.specs.declared.load.LoadRows.{LoadRows}
use Rattle.machine_defs.specs.Steps.{Turn}
use Rattle.machine_defs.specs.History.{owner_ended_at, owner_at, root_at, loans_at, gone_at, objects_made}

-- an object that isn't gone is to be freed where its root is gone, or where its root's owner has
-- ended and the root has no loan
abbrev pub is_to_free : LoadRows → List Turn → ℕ → Bool
is_to_free L us o = not (gone_at us o) && (gone_at us (root_at us o) || (owner_ended_at us (owner_at us o) && (loans_at L us (root_at us o) == 0)))

-- After each entry exactly those objects are freed that are to be freed then, by rising number.
abbrev pub Caused : LoadRows → List Turn → Turn → Type 0
Caused L us u = u.frees ≡ filter (is_to_free L (record u { frees = [] } ∷ us)) (range_with_len 1 (objects_made (record u { frees = [] } ∷ us)))
