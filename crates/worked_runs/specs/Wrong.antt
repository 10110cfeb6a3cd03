-- Histories that begin as that of a run, and go on as none does.
use Rattle.std.specs.Prelude.{List, [], ◌∷◌, ◌++◌, codes}
use Rattle.rl_defs.specs.declared.values.Value.TheVariants as value
use Rattle.machine_defs.specs.declared.entry.Entry.{Entry}
use Rattle.machine_defs.specs.declared.entry.Entry.TheVariants as entry
use Rattle.rl_defs.specs.declared.load.LoadRows.{LoadRows}
use Rattle.machine_defs.specs.State.{State}
use Rattle.machine_defs.specs.Runs.{Run}
use Rattle.worked_runs.specs.Parts.{method, client}
use Rattle.worked_runs.specs.Driver.{device_tables, driver_load, call_size, kill_disk}
use Rattle.worked_runs.specs.KilledInARead.{killed_in_a_read}
use Rattle.worked_runs.specs.EndedCaller.{ended_caller}
use Rattle.worked_runs.specs.LentWhileKilled.{lent_load, lent_up_to_kill, lent_before_last}

-- the first entries are a run of the load, and with the others behind them they are none
pub record IsWrong (L : LoadRows) (before wrong : List Entry) : Type 0 where
  pub end : State
  pub begun : Run L before end
  pub never : (s : State) → Run L (before ++ wrong) s → ⊥

-- A driver whose methods may be issued once only. Client `y` kills it while `x` is in it, and has
-- it loaded again by a call of its own.
abbrev pub issued_once : LoadRows
issued_once = driver_load (device_tables method) (client (codes "x") (call_size ∷ []) ∷ client (codes "y") (kill_disk ∷ call_size ∷ []) ∷ []) []

-- the call of `x` is not issued again
abbrev pub IsIssuedOnce : Type 0
IsIssuedOnce = IsWrong issued_once (entry.Call 1 1 2 1 0 [] ∷ entry.Kill 2 1 ∷ entry.Reload 2 2 2 0 ∷ []) (entry.Again 1 1 2 2 ∷ [])

-- A caller has ended, and its callee runs: the caller's call doesn't end before that of the callee.
abbrev pub IsInnermostFirst : Type 0
IsInnermostFirst = IsWrong ended_caller (entry.Call 1 1 2 2 0 [] ∷ entry.Call 1 2 1 1 0 [] ∷ entry.Kill 2 2 ∷ []) (entry.Unwound 1 1 ∷ [])

-- A reload of a driver that had one restart left doesn't leave one.
abbrev pub IsReloadCounted : Type 0
IsReloadCounted = IsWrong killed_in_a_read (entry.Kill 2 1 ∷ []) (entry.Reload 1 2 2 1 ∷ [])

-- The owner of an object is killed while the object is lent: the object isn't freed behind the
-- kill.
abbrev pub IsKeptWhileLent : Type 0
IsKeptWhileLent = IsWrong lent_load lent_up_to_kill (entry.Free 1 ∷ [])

-- Behind the return that ends its last loan the object is freed, before a client goes on.
abbrev pub IsFreedWithTheLast : Type 0
IsFreedWithTheLast = IsWrong lent_load lent_before_last (entry.Ret 1 2 (value.Num 0 ∷ []) ∷ entry.Done 2 ∷ [])
