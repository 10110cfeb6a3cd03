-- What contracts see of a machine, and what a step of it is.
use Rattle.std.specs.Prelude.{◌≡◌, ℕ, ◌<◌, ◌++◌, ◌∷◌, List, length, map, Some, true, false, Bool}
use Rattle.std.specs.List.{list_any}
use Rattle.machine_defs.specs.declared.entry.Entry.{Entry}
use Rattle.machine_defs.specs.declared.entry.Entry.TheVariants as entry
use Rattle.rl_defs.specs.declared.load.LoadRows.{LoadRows}
use Rattle.rl_defs.specs.Domains.{is_native}
use Rattle.rl_defs.specs.Rows.{domain_of_load}
use Rattle.machine_defs.specs.State.{State}
use Rattle.machine_defs.specs.Loans.{loans}
use Rattle.machine_defs.specs.Objects.{kinds_of}
use Rattle.machine_defs.specs.Steps.{Step}
use Rattle.machine_defs.specs.Calling.{is_enabled}
use Rattle.rref_heap.specs.HeapValue.{HeapRow, HeapRows, row_of, is_rref}

-- its load, its log, and the state that the log leads to
pub record Kept : Type 0 where
  pub load : LoadRows
  pub log : List Entry
  pub state : State

-- a client is enabled, and its turn may begin, since the log is no longer than it may be
pub record MayStep (w : Kept) (t : ℕ) : Type 0 where
  pub enabled : is_enabled w.load w.state t ≡ true
  pub short : length w.log < 262144

-- The machine made the step of this entry, and logged it with what was freed behind it.
pub record Went (old new : Kept) (e : Entry) : Type 0 where
  pub frees : List ℕ
  pub step : Step old.load old.state (record { entry = e; frees = frees }) new.state
  pub log : new.log ≡ old.log ++ e ∷ map entry.Free frees
  pub load : new.load ≡ old.load

-- an entry begins a turn, unless it is a `free`
abbrev pub begins_turn : Entry → Bool
begins_turn (entry.Free o) = false
begins_turn _ = true

-- no turn began where the log had 262,144 entries or more
abbrev pub TurnsAreShort : List Entry → Type 0
TurnsAreShort log = (before behind : List Entry) (e : Entry) → log ≡ before ++ e ∷ behind → begins_turn e ≡ true → length before < 262144

-- no load is of a domain with a native body
abbrev pub IsCodeAlone : LoadRows → Type 0
IsCodeAlone L = (k : ℕ) → is_native (domain_of_load L k).lines ≡ false

-- What the heap keeps beside an object is what the state says of it: how often it is lent, and
-- whether others may hang in it. None is listed for the sweep.
pub record AgreesAt (L : LoadRows) (s : State) (o : ℕ) (r : HeapRow) : Type 0 where
  pub lent : r.loans ≡ loans s o
  pub nests : r.nests ≡ list_any is_rref (kinds_of L (Some r.object))
  pub stays : r.leaves ≡ false

abbrev pub Agrees : LoadRows → State → HeapRows → Type 0
Agrees L s rows = (o : ℕ) (r : HeapRow) → row_of rows o ≡ Some r → AgreesAt L s o r
