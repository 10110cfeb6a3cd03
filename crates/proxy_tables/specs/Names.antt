-- The names of methods.
use Rattle.std.specs.Prelude.{ℕ, List, [], ◌∷◌}
use Rattle.rl_defs.specs.declared.tables.MethodRow.{MethodRow}

abbrev pub method_names : List MethodRow → List (List ℕ)
method_names [] = []
method_names (m ∷ ms) = m.name ∷ method_names ms
