-- What domain code would do next, as the action that it is.
use Rattle.std.specs.Prelude.{[], ◌∷◌}
use Rattle.machine_defs.specs.declared.frame.Action.{Action}
use Rattle.machine_defs.specs.declared.frame.Action.TheVariants as action
use Rattle.code_machine.specs.declared.act.Act.{Act}
use Rattle.code_machine.specs.declared.act.Act.TheVariants as act

-- the action that an act is: a `set` of domain code sets one cell
abbrev pub action_of : Act → Action
action_of (act.New s) = action.New s
action_of (act.Drop o) = action.Drop o
action_of (act.Set o place v) = action.Set o place (v ∷ [])
action_of (act.Wput place v) = action.Wput place v
action_of (act.Take slot) = action.Take slot
action_of (act.Put slot o) = action.Put slot o
action_of (act.DevGet o block) = action.DevGet o block
action_of (act.DevPut block o) = action.DevPut block o
action_of (act.Hang o place v) = action.Hang o place v
action_of (act.Unhang o place) = action.Unhang o place
action_of (act.Call x m args) = action.Call x m args
action_of (act.Ret results) = action.Ret results
action_of (act.Trap c) = action.Trap c
