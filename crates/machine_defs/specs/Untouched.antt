-- Words and slots of an instance change only by what its own live calls do.
use Rattle.std.specs.Prelude.{◌≡◌, ℕ, false, List, Some, None, slice_get}
use Rattle.machine_defs.specs.declared.values.Owner.TheVariants as owner
use Rattle.machine_defs.specs.declared.entry.Entry.TheVariants as entry
use Rattle.machine_defs.specs.declared.entry.Entry.{Entry}
use Rattle.rl_defs.specs.declared.load.LoadRows.{LoadRows}
use Rattle.machine_defs.specs.Steps.{Turn}
use Rattle.machine_defs.specs.History.{actor_at, ended_at, slot_at, word_at}
use Rattle.machine_defs.specs.State.{State}
use Rattle.machine_defs.specs.Seen.{words, in_slot}
use Rattle.machine_defs.specs.ObjectRows.{IsSlot}

-- the instance itself acts, and lives
pub record ActsItself (us : List Turn) (t i : ℕ) : Type 0 where
  pub itself : actor_at us t ≡ owner.Instance i
  pub lives : ended_at us i ≡ false

-- `put` fills an empty slot, and `take` takes the object of the `put` before it
abbrev pub Untouched : List Turn → Entry → Type 0
Untouched us (entry.Wput t i at v) = ActsItself us t i
Untouched us (entry.Put t i slot o) = ActsItself us t i × (slot_at us i slot ≡ None)
Untouched us (entry.Take t i slot o) = ActsItself us t i × (slot_at us i slot ≡ Some o)
Untouched us _ = Unit {0}

-- The words of an instance are the last values that were put into them, or 0, and its slots have
-- what was put into them and not taken.
pub record AreContents (L : LoadRows) (us : List Turn) (s : State) : Type 0 where
  pub words : (i at v : ℕ) → slice_get (words s i) at ≡ Some v → v ≡ word_at us i at
  pub slots : (i k : ℕ) (slot : List ℕ) → IsSlot L s i k slot → in_slot s i k ≡ slot_at us i slot
