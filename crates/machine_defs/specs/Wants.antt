-- What a thread would do next: its script's next command, or the next action of its top frame.
use Rattle.std.specs.Prelude.{ℕ, ◌+◌, ◌&&◌, [], ◌∷◌, List, Option, None, Bool, true, false, Some, not, nat_le, length, nat_lt, zero, suc, slice_get, if◌then◌else◌, is_some}
use Rattle.std.specs.List.{slice_index_or, flat_map, list_all}
use Rattle.std.specs.Option.{option_map_or}
use Rattle.rl_defs.specs.declared.load.Command.TheVariants as command
use Rattle.rl_defs.specs.declared.load.ScriptArg.TheVariants as given
use Rattle.rl_defs.specs.declared.values.Value.TheVariants as value
use Rattle.machine_defs.specs.declared.values.Arg.TheVariants as arg
use Rattle.machine_defs.specs.declared.frame.FrameBody.TheVariants as body
use Rattle.machine_defs.specs.declared.frame.Action.TheVariants as action
use Rattle.machine_defs.specs.declared.values.Cause.TheVariants as cause
use Rattle.machine_defs.specs.declared.frame.Action.{Action}
use Rattle.rl_defs.specs.declared.load.Command.{Command}
use Rattle.rl_defs.specs.declared.values.Value.{Value}
use Rattle.rl_defs.specs.declared.load.ScriptArg.{ScriptArg}
use Rattle.machine_defs.specs.declared.values.Arg.{Arg}
use Rattle.machine_defs.specs.declared.frame.FrameBody.{FrameBody}
use Rattle.rl_defs.specs.declared.load.LoadRows.{LoadRows}
use Rattle.machine_defs.specs.State.{StackFrame, top, State, Thread, is_live, stack}
use Rattle.machine_defs.specs.Instructions.{Settled, Nowhere, Before, settle}
use Rattle.machine_defs.specs.Seen.{domain_of_instance, seen}
use Rattle.rl_defs.specs.Rows.{row, commands_of}

-- The thread has no step of this kind; its script has ended; its command uses a name that isn't
-- bound; it has a command to do, with all names bound; or its top frame would make an action, and
-- stands before it with this fuel, line and registers.
pub data Want : Type 0 where
  Nothing : Want
  Finishes : Want
  Skips : (number : ℕ) → Want
  Commands : (next : Command) → Want
  Acts : (would : Action) (fuel : ℕ) (frame : StackFrame) → Want

-- what a script name holds
abbrev pub Names : Type 0
Names = List (Option Value)

abbrev pub name_held : Names → ℕ → Option Value
name_held names k = slice_index_or names k None

-- the names that a command uses
abbrev pub used_by_arg : ScriptArg → List ℕ
used_by_arg (given.Name k) = k ∷ []
used_by_arg (given.Lent k) = k ∷ []
used_by_arg _ = []

abbrev pub used : Command → List ℕ
used (command.Call target method args names) = flat_map used_by_arg args
used (command.Show k) = k ∷ []
used (command.Drop k) = k ∷ []
used _ = []

-- whether the command makes an object
abbrev pub makes : Command → Bool
makes (command.Let name ty values) = true
makes (command.Text name ty bytes) = true
makes _ = false

-- a command is skipped where a name that it uses isn't bound, or where it makes an object and
-- 65,536 are live
abbrev pub can_do : State → Names → Command → Bool
can_do s names c = list_all (λ k. is_some (name_held names k)) (used c) && not (makes c && nat_le 65536 (length s.objects))

-- the argument that a name or a number of the script stands for
abbrev pub given_arg : Option Value → Arg
given_arg None = arg.Num 0
given_arg (Some (value.Num n)) = arg.Num n
given_arg (Some (value.Obj o)) = arg.Moved o
given_arg (Some (value.Cap x)) = arg.Cap x

abbrev pub lent_arg : Option Value → Arg
lent_arg (Some (value.Obj o)) = arg.Lent o
lent_arg _ = arg.Num 0

abbrev pub arg_of : Names → ScriptArg → Arg
arg_of names (given.Num n) = arg.Num n
arg_of names (given.Name k) = given_arg (name_held names k)
arg_of names (given.Lent k) = lent_arg (name_held names k)
arg_of names (given.Target x) = arg.Cap x

-- the next command of the script
abbrev pub by_command : State → Thread → Option Command → Want
by_command s thread None = Finishes
by_command s thread (Some c) = if can_do s thread.names c then Commands c else Skips (thread.place + 1)

-- a code frame would make the first action or trap that its lines come to, and stands before it
-- then
abbrev pub settled : StackFrame → Settled → Want
settled f Nowhere = Nothing
settled f (Before act fuel stand) = Acts act fuel (record f { body = body.Code stand.at stand.regs })

-- a native frame would make the action that it has chosen; but a `new` traps where 65,536 objects
-- are live
abbrev pub unless_full : ℕ → Action → Action
unless_full live (action.New ty) = if nat_lt live 65536 then action.New ty else action.Trap cause.HeapFull
unless_full live act = act

-- at fuel 0 a frame traps, whatever its body
abbrev pub chosen : ℕ → ℕ → StackFrame → Action → Want
chosen live zero f act = Acts (action.Trap cause.Fuel) 0 f
chosen live (suc fuel) f act = Acts (unless_full live act) (suc fuel) f

abbrev pub by_body : LoadRows → State → ℕ → StackFrame → FrameBody Action → Want
by_body L s fuel f (body.Code at regs) = settled f (settle (domain_of_instance L s f.instance) (seen L s f.instance) (length s.objects) fuel (record { at = at; regs = regs }))
by_body L s fuel f (body.Native held act) = chosen (length s.objects) fuel f act

-- a frame of an ended instance wants nothing
abbrev pub by_frame : LoadRows → State → ℕ → StackFrame → Want
by_frame L s fuel f = if is_live s f.instance then by_body L s fuel f f.body else Nothing

-- the top frame, or, where there is none, the client's script
abbrev pub by_top : LoadRows → State → ℕ → Thread → Option StackFrame → Want
by_top L s t thread None = by_command s thread (slice_get (commands_of (row L.clients t)) thread.place)
by_top L s t thread (Some f) = by_frame L s thread.fuel f

abbrev pub wanted : LoadRows → State → ℕ → Want
wanted L s t = option_map_or (λ thread. by_top L s t thread (top (stack s t))) (row s.threads t) Nothing
