-- What comes of running a world to its end.
use Rattle.std.specs.Prelude.{◌≡◌, ℕ, ◌≤◌, ◌++◌, List, length}
use Rattle.machine_defs.specs.declared.entry.Entry.{Entry}
use Rattle.machine_defs.specs.Runs.{AllDone, Ordered}
use Rattle.machine_steps.specs.Kept.{Kept, MayStep}
use Rattle.machine_steps.specs.Turns.{TakesMemory}
use Rattle.domain_machine.specs.declared.world.Finish.{Finish}
use Rattle.domain_machine.specs.declared.world.Finish.TheVariants as finish

-- Turns were made in the order of the order list, from its first place on, and were logged.
pub record RanInOrder (old new : Kept) : Type 0 where
  pub entries : List Entry
  pub place : ℕ
  pub ordered : Ordered old.load old.state entries new.state place
  pub log : new.log ≡ old.log ++ entries
  pub load : new.load ≡ old.load

-- not every client is done, and the log has as many entries that no turn begins any more
pub record IsLong (w : Kept) : Type 0 where
  pub undone : AllDone w.state → ⊥
  pub full : 262144 ≤ length w.log

-- not every client is done, and the step of one that may make it takes memory
pub record LacksMemory (w : Kept) : Type 0 where
  pub client : ℕ
  pub may : MayStep w client
  pub takes : TakesMemory w client

-- how it ended, and what was run till then
abbrev pub FinishAnswers : Kept → Kept → Finish → Type 0
FinishAnswers old new finish.Whole = RanInOrder old new × AllDone new.state
FinishAnswers old new finish.Long = RanInOrder old new × IsLong new
FinishAnswers old new finish.Memory = RanInOrder old new × LacksMemory new
