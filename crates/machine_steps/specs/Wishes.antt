-- Who would act for a client.
use Rattle.std.specs.Prelude.{◌≡◌, ℕ, Some, true, false}
use Rattle.machine_defs.specs.State.{StackFrame, stack, top, is_live}
use Rattle.machine_steps.specs.Kept.{Kept}

-- client t's top frame is of this instance, which lives
pub record IsLiveTop (w : Kept) (t i : ℕ) : Type 0 where
  pub frame : StackFrame
  pub on_top : top (stack w.state t) ≡ Some frame
  pub inside : i ≡ frame.instance
  pub lives : is_live w.state i ≡ true

-- client t's top frame is of this call of a target, and its instance has ended
pub record IsDeadTop (w : Kept) (t c x : ℕ) : Type 0 where
  pub frame : StackFrame
  pub on_top : top (stack w.state t) ≡ Some frame
  pub dead : is_live w.state frame.instance ≡ false
  pub call : c ≡ frame.call
  pub through : x ≡ frame.target
