-- What a call of a client takes away from its script's names: those of the objects that it moves.
use Rattle.std.specs.Prelude.{ℕ, ◌≤◌, [], ◌∷◌, List, Option, Some}
use Rattle.std.specs.List.{filter_map}
use Rattle.rl_defs.specs.declared.load.ScriptArg.TheVariants as given
use Rattle.rl_defs.specs.declared.values.Value.TheVariants as value
use Rattle.rl_defs.specs.declared.load.ScriptArg.{ScriptArg}
use Rattle.rl_defs.specs.declared.values.Value.{Value}
use Rattle.machine_defs.specs.Loans.{count}
use Rattle.machine_defs.specs.ObjectRows.{unbound}
use Rattle.machine_defs.specs.Sound.{object_held}
use Rattle.machine_defs.specs.Wants.{Names, name_held}

-- a name that holds an object holds nothing any more; a number or a target stays
abbrev pub without_object : ℕ → Option Value → Names → Names
without_object k (Some (value.Obj o)) names = unbound k names
without_object k held names = names

-- an argument that is a name takes the name's object away, if it holds one; no other argument takes
-- anything
abbrev pub given_up_by : ScriptArg → Names → Names
given_up_by (given.Name k) names = without_object k (name_held names k) names
given_up_by arg names = names

-- what all arguments of a call leave of the names
abbrev pub given_up_names : List ScriptArg → Names → Names
given_up_names [] names = names
given_up_names (arg ∷ args) names = given_up_names args (given_up_by arg names)

-- no object is held by two names
abbrev pub AreHeldOnce : Names → Type 0
AreHeldOnce names = (o : ℕ) → count o (filter_map object_held names) ≤ 1
