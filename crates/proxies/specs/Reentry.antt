-- What comes of the call of a dead frame: it is over, waits, needs a reload first, or is issued
-- again.
use Rattle.std.specs.Prelude.{◌≡◌, ℕ, true, false}
use Rattle.rl_defs.specs.declared.load.LoadRows.{LoadRows}
use Rattle.machine_defs.specs.State.{State, StackFrame, is_live, current}
use Rattle.machine_defs.specs.Calling.{is_taken}
use Rattle.machine_defs.specs.CallRows.{is_over}
use Rattle.proxies.specs.Crossing.{IsHolder}
use Rattle.proxies.specs.declared.reentry.Reentry.{Reentry}
use Rattle.proxies.specs.declared.reentry.Reentry.TheVariants as reentry

-- the call may be issued again, and the instance that its target stands for now lives
pub record MayReenter (L : LoadRows) (s : State) (f : StackFrame) : Type 0 where
  pub unended : is_over L s f ≡ false
  pub lives : is_live s (current L s f.target) ≡ true

pub record Reenters (L : LoadRows) (s : State) (t : ℕ) (f : StackFrame) (i : ℕ) : Type 0 where
  pub meets : MayReenter L s f
  pub into : i ≡ current L s f.target
  pub free : is_taken L s t i ≡ false

pub record WaitsToReenter (L : LoadRows) (s : State) (t : ℕ) (f : StackFrame) (h : ℕ) : Type 0 where
  pub meets : MayReenter L s f
  pub taken : is_taken L s t (current L s f.target) ≡ true
  pub holder : IsHolder s t (current L s f.target) h

pub record NeedsReload (L : LoadRows) (s : State) (f : StackFrame) : Type 0 where
  pub unended : is_over L s f ≡ false
  pub dead : is_live s (current L s f.target) ≡ false

-- what comes of the call of client t's dead top frame
abbrev pub IsReentry : LoadRows → State → ℕ → StackFrame → Reentry → Type 0
IsReentry L s t f (reentry.Again i) = Reenters L s t f i
IsReentry L s t f reentry.Unwound = is_over L s f ≡ true
IsReentry L s t f reentry.Reload = NeedsReload L s f
IsReentry L s t f (reentry.Wait h) = WaitsToReenter L s t f h
