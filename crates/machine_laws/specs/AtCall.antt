-- While a client has frames, its script stands at the call that the lowest of them is for.
use Rattle.std.specs.Prelude.{◌≡◌, ℕ, List, ◌∷◌, Option, Some, slice_get}
use Rattle.rl_defs.specs.declared.load.LoadRows.{LoadRows}
use Rattle.rl_defs.specs.declared.load.Command.{Command}
use Rattle.rl_defs.specs.declared.load.Command.TheVariants as command
use Rattle.rl_defs.specs.declared.load.ScriptArg.{ScriptArg}
use Rattle.machine_defs.specs.State.{State, StackFrame, Thread, stack}
use Rattle.rl_defs.specs.Rows.{row}
use Rattle.rl_defs.specs.Rows.{commands_of}

-- a command that calls this method of this target
abbrev pub IsCallOf : Option Command → ℕ → ℕ → Type 0
IsCallOf next x m = (args : List ScriptArg) × (names : List ℕ) × (next ≡ Some (command.Call x m args names))

pub record AtCall (L : LoadRows) (s : State) (t : ℕ) : Type 0 where
  pub calls : (f : StackFrame) (above : List StackFrame) (thread : Thread) → stack s t ≡ f ∷ above → row s.threads t ≡ Some thread → IsCallOf (slice_get (commands_of (row L.clients t)) thread.place) f.target f.method
