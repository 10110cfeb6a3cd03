-- What comes of a client's turn.
use Rattle.std.specs.Prelude.{◌≡◌, ℕ, ◌<◌, ◌≤◌, Bool, true, false, length}
use Rattle.rl_defs.specs.declared.load.Command.TheVariants as command
use Rattle.machine_defs.specs.declared.entry.Entry.{Entry}
use Rattle.machine_defs.specs.declared.frame.Action.TheVariants as action
use Rattle.rl_defs.specs.Rows.{row}
use Rattle.machine_defs.specs.State.{is_live, current}
use Rattle.machine_defs.specs.Entries.{thread_of}
use Rattle.machine_defs.specs.Wants.{Want, Commands, Acts, wanted}
use Rattle.machine_defs.specs.Calling.{is_undone, is_enabled}
use Rattle.machine_defs.specs.CallRows.{Needs}
use Rattle.proxies.specs.Crossing.{IsHolder}
use Rattle.machine_steps.specs.declared.turn.Turn.{Turn}
use Rattle.machine_steps.specs.declared.turn.Turn.TheVariants as turn
use Rattle.machine_steps.specs.Kept.{Kept, MayStep, Went}

-- The machine made a step of client t, which began where the log was no longer than it may be.
pub record WentBy (old new : Kept) (t : ℕ) : Type 0 where
  pub entry : Entry
  pub by : thread_of entry ≡ t
  pub went : Went old new entry
  pub short : length old.log < 262144

-- Client t isn't done and isn't enabled: its next step would enter the instance of a target, and h
-- is the least other client that has a frame in it.
pub record WaitsFor (w : Kept) (t h : ℕ) : Type 0 where
  pub undone : is_undone (row w.state.threads t) ≡ true
  pub disabled : is_enabled w.load w.state t ≡ false
  pub target : ℕ
  pub needed : Needs w.load w.state t target
  pub holder : IsHolder w.state t (current w.load w.state target) h

-- a step that needs memory: one that makes an object, or keeps values with its entry
abbrev pub keeps_more : Want → Bool
keeps_more (Commands (command.Let name ty values)) = true
keeps_more (Commands (command.Text name ty bytes)) = true
keeps_more (Commands (command.Show k)) = true
keeps_more (Acts (action.New ty) fuel f) = true
keeps_more (Acts (action.Set o at values) fuel f) = true
keeps_more _ = false

-- Client t's next step takes memory: it makes an object, sets or shows cells, or loads an instance
-- again.
pub data TakesMemory (w : Kept) (t : ℕ) : Type 0 where
  Keeps : keeps_more (wanted w.load w.state t) ≡ true → TakesMemory w t
  Loads : (x : ℕ) → Needs w.load w.state t x → is_live w.state (current w.load w.state x) ≡ false → TakesMemory w t

-- What a turn of client t is answered. All answers but `Went` leave the machine as it was.
abbrev pub TurnAnswers : Kept → Kept → ℕ → Turn → Type 0
TurnAnswers old new t turn.Went = WentBy old new t
TurnAnswers old new t (turn.NotYet h) = (new ≡ old) × WaitsFor old t h
TurnAnswers old new t turn.Done = (new ≡ old) × (is_undone (row old.state.threads t) ≡ false)
TurnAnswers old new t turn.Long = (new ≡ old) × (is_enabled old.load old.state t ≡ true) × (262144 ≤ length old.log)
TurnAnswers old new t turn.Memory = (new ≡ old) × MayStep old t × TakesMemory old t
