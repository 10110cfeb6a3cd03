-- The steps of the machine: the row of each entry, and what is freed after it.
use Rattle.std.specs.Prelude.{◌≡◌, ℕ, List, true}
use Rattle.machine_defs.specs.declared.entry.Entry.TheVariants as entry
use Rattle.machine_defs.specs.declared.entry.Entry.{Entry}
use Rattle.rl_defs.specs.declared.load.LoadRows.{LoadRows}
use Rattle.machine_defs.specs.State.{State}
use Rattle.machine_defs.specs.Loans.{freed, sweep}
use Rattle.machine_defs.specs.CallRows.{Calls, Refuses, Returns, Unwinds, IssuesAgain, Reloads, Traps, Kills}
use Rattle.machine_defs.specs.ObjectRows.{Makes, Drops, Sets, PutsWord, Takes, Puts, GetsBlock, PutsBlock, Hangs, Unhangs, Shows, SkipsCommand, FinishesScript}
use Rattle.machine_defs.specs.Entries.{thread_of}
use Rattle.machine_defs.specs.Calling.{is_enabled}

-- the row of an entry: when it is made, and what the state becomes before objects are freed. A
-- `free` is no row: it follows one.
abbrev pub Row : LoadRows → State → Entry → State → Type 0
Row L s (entry.Call t c x i m args) z = Calls L s t c x i m args z
Row L s (entry.Refuse t c why x m args) z = Refuses L s t c why x m args z
Row L s (entry.Ret t c results) z = Returns L s t c results z
Row L s (entry.Unwound t c) z = Unwinds L s t c z
Row L s (entry.Reload t x i left) z = Reloads L s t x i left z
Row L s (entry.Again t c x i) z = IssuesAgain L s t c x i z
Row L s (entry.Trap t i cause) z = Traps L s t i cause z
Row L s (entry.Kill t i) z = Kills L s t i z
Row L s (entry.New t w o ty values) z = Makes L s t w o ty values z
Row L s (entry.Drop t o) z = Drops L s t o z
Row L s (entry.Set t o at values) z = Sets L s t o at values z
Row L s (entry.Wput t i at v) z = PutsWord L s t i at v z
Row L s (entry.Take t i slot o) z = Takes L s t i slot o z
Row L s (entry.Put t i slot o) z = Puts L s t i slot o z
Row L s (entry.DevGet t o b) z = GetsBlock L s t o b z
Row L s (entry.DevPut t b o) z = PutsBlock L s t b o z
Row L s (entry.Hang t o place v) z = Hangs L s t o place v z
Row L s (entry.Unhang t o place v) z = Unhangs L s t o place v z
Row L s (entry.Show t o values) z = Shows L s t o values z
Row L s (entry.Skip t number) z = SkipsCommand L s t number z
Row L s (entry.Done t) z = FinishesScript L s t z
Row L s (entry.Free o) z = ⊥

-- one turn of a thread: its entry, and the objects that are freed after it
pub record Turn : Type 0 where
  pub entry : Entry
  pub frees : List ℕ

-- A step: the entry's thread is enabled, the row holds, and each object that nobody can reach then
-- is freed.
pub record Step (L : LoadRows) (s : State) (turn : Turn) (z : State) : Type 0 where
  pub made : State
  pub enabled : is_enabled L s (thread_of turn.entry) ≡ true
  pub makes : Row L s turn.entry made
  pub frees : turn.frees ≡ freed made
  pub swept : z ≡ sweep made
