-- What comes of a call: it is refused, waits, needs a reload first, or enters.
use Rattle.std.specs.Prelude.{◌≡◌, ◌≤◌, ℕ, [], List, true, false, Some, None}
use Rattle.rl_defs.specs.declared.load.LoadRows.{LoadRows}
use Rattle.machine_defs.specs.State.{State, Instance, StackFrame, Shadow, is_live, current}
use Rattle.machine_defs.specs.Calling.{refusal, is_taken}
use Rattle.trampolines.specs.Words.{Holds}
use Rattle.proxies.specs.declared.crossing.Crossing.{Crossing}
use Rattle.proxies.specs.declared.crossing.Crossing.TheVariants as crossing

-- the state that a proxy sees: instances, stacks and shadows
abbrev pub seen_by_proxy : List Instance → List (List StackFrame) → List Shadow → State
seen_by_proxy instances stacks shadows = record {
  instances = instances;
  objects = [];
  stacks = stacks;
  threads = [];
  shadows = shadows;
  blocks = [];
  next_object = 0;
  next_call = 0;
}

-- h is the least client other than t that has a frame in an instance
pub record IsHolder (s : State) (t i h : ℕ) : Type 0 where
  pub holds : Holds i t s.stacks h
  pub least : (u : ℕ) → Holds i t s.stacks u → h ≤ u

-- the call meets no refusal, and its target's instance lives
pub record IsOpen (L : LoadRows) (s : State) (t x : ℕ) : Type 0 where
  pub unrefused : refusal L s t x ≡ None
  pub lives : is_live s (current L s x) ≡ true

pub record Enters (L : LoadRows) (s : State) (t x i : ℕ) : Type 0 where
  pub meets : IsOpen L s t x
  pub into : i ≡ current L s x
  pub free : is_taken L s t i ≡ false

pub record WaitsFor (L : LoadRows) (s : State) (t x h : ℕ) : Type 0 where
  pub meets : IsOpen L s t x
  pub taken : is_taken L s t (current L s x) ≡ true
  pub holder : IsHolder s t (current L s x) h

pub record NeedsReload (L : LoadRows) (s : State) (t x : ℕ) : Type 0 where
  pub unrefused : refusal L s t x ≡ None
  pub dead : is_live s (current L s x) ≡ false

-- what comes of a call of target x by client t
abbrev pub IsCrossing : LoadRows → State → ℕ → ℕ → Crossing → Type 0
IsCrossing L s t x (crossing.Enter i) = Enters L s t x i
IsCrossing L s t x (crossing.Refuse why) = refusal L s t x ≡ Some why
IsCrossing L s t x crossing.Reload = NeedsReload L s t x
IsCrossing L s t x (crossing.Wait h) = WaitsFor L s t x h
