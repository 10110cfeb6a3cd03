-- What a step that ends a call is asked for.
use Rattle.std.specs.Prelude.{◌≡◌, ℕ, true, List, [], Option, Some}
use Rattle.rl_defs.specs.declared.load.Command.{Command}
use Rattle.rl_defs.specs.declared.load.Command.TheVariants as command
use Rattle.rl_defs.specs.declared.load.ScriptArg.{ScriptArg}
use Rattle.machine_defs.specs.State.{StackFrame}
use Rattle.machine_defs.specs.CallRows.{is_over}
use Rattle.machine_steps.specs.Kept.{Kept}
use Rattle.machine_steps.specs.Calls.{IsDeadCall}

-- the call of client t's dead frame is over: it may not be issued again
pub record MayUnwind (w : Kept) (t c : ℕ) : Type 0 where
  pub frame : StackFrame
  pub of : IsDeadCall w t c frame
  pub over : is_over w.load w.state frame ≡ true

-- the arguments that a call of a script is given
abbrev pub given_in : Option Command → List ScriptArg
given_in (Some (command.Call target method args names)) = args
given_in _ = []
