-- What a step of a call is asked for.
use Rattle.std.specs.Prelude.{◌≡◌, ℕ, ◌<◌, List, Some, None, true, false, map}
use Rattle.machine_defs.specs.declared.values.Arg.{Arg}
use Rattle.rl_defs.specs.declared.load.Command.TheVariants as command
use Rattle.rl_defs.specs.declared.load.ScriptArg.{ScriptArg}
use Rattle.rl_defs.specs.declared.values.Value.TheVariants as value
use Rattle.rl_defs.specs.Rows.{row}
use Rattle.machine_defs.specs.State.{Thread, StackFrame, stack, top, is_live, current}
use Rattle.machine_defs.specs.Wants.{Commands, wanted, arg_of, name_held}
use Rattle.machine_defs.specs.Calling.{refusal, restarts_left, is_reissuable}
use Rattle.machine_defs.specs.CallRows.{Needs}
use Rattle.machine_steps.specs.Kept.{Kept}

-- a name of client t's script holds this object
pub record IsNamed (w : Kept) (t k o : ℕ) : Type 0 where
  pub thread : Thread
  pub of : row w.state.threads t ≡ Some thread
  pub holds : name_held thread.names k ≡ Some (value.Obj o)

-- client t's next command calls this method of this target, with these arguments
pub record ClientCalls (w : Kept) (t x m : ℕ) (args : List Arg) : Type 0 where
  pub thread : Thread
  pub given : List ScriptArg
  pub names : List ℕ
  pub of : row w.state.threads t ≡ Some thread
  pub wants : wanted w.load w.state t ≡ Commands (command.Call x m given names)
  pub args_are : args ≡ map (arg_of thread.names) given

-- a call of the target by client t meets no refusal, and enters this instance, which lives
pub record MayEnter (w : Kept) (t x i : ℕ) : Type 0 where
  pub unrefused : refusal w.load w.state t x ≡ None
  pub into : i ≡ current w.load w.state x
  pub lives : is_live w.state i ≡ true

-- the top frame of client t is of this call, and its instance has ended
pub record IsDeadCall (w : Kept) (t c : ℕ) (frame : StackFrame) : Type 0 where
  pub on_top : top (stack w.state t) ≡ Some frame
  pub dead : is_live w.state frame.instance ≡ false
  pub call : c ≡ frame.call

-- the call of client t's dead frame may be issued again through this shadow, in this instance,
-- which lives
pub record MayIssueAgain (w : Kept) (t c x i : ℕ) : Type 0 where
  pub frame : StackFrame
  pub of : IsDeadCall w t c frame
  pub through : x ≡ frame.target
  pub reissuable : is_reissuable w.load frame ≡ true
  pub into : i ≡ current w.load w.state x
  pub lives : is_live w.state i ≡ true

-- client t needs the shadow, whose instance has ended and that has a restart left
pub record MayReload (w : Kept) (t x : ℕ) : Type 0 where
  pub needed : Needs w.load w.state t x
  pub dead : is_live w.state (current w.load w.state x) ≡ false
  pub left : 0 < restarts_left w.load w.state x
