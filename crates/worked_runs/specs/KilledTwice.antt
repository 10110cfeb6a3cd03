-- A worked run: two clients are in a driver that a third one kills twice. Behind the driver's
-- shadow, which has one restart, their calls are issued again the first time, and end with an error
-- the second time.
use Rattle.std.specs.Prelude.{true, false, List, [], ◌∷◌, codes}
use Rattle.machine_defs.specs.declared.values.RpcCode.TheVariants as code
use Rattle.machine_defs.specs.declared.entry.Entry.{Entry}
use Rattle.machine_defs.specs.declared.entry.Entry.TheVariants as entry
use Rattle.rl_defs.specs.declared.load.LoadRows.{LoadRows}
use Rattle.machine_defs.specs.State.{State, start}
use Rattle.worked_runs.specs.Parts.{repeatable, client, thread, instance_of}
use Rattle.worked_runs.specs.WorkedRuns.{IsWorked}
use Rattle.worked_runs.specs.Driver.{device_tables, driver_load, call_size, kill_disk}

abbrev pub killed_twice : LoadRows
killed_twice = driver_load (device_tables repeatable)
    (client (codes "x") (call_size ∷ []) ∷ client (codes "y") (call_size ∷ []) ∷ client (codes "z") (kill_disk ∷ kill_disk ∷ call_size ∷ []) ∷ [])
    (1 ∷ 2 ∷ 3 ∷ 1 ∷ [])

abbrev pub killed_twice_history : List Entry
killed_twice_history =
    entry.Call 1 1 2 1 0 []
    ∷ entry.Call 2 2 2 1 0 []
    ∷ entry.Kill 3 1
    ∷ entry.Reload 1 2 2 0
    ∷ entry.Again 1 1 2 2
    ∷ entry.Again 2 2 2 2
    ∷ entry.Kill 3 2
    ∷ entry.Unwound 1 1
    ∷ entry.Done 1
    ∷ entry.Unwound 2 2
    ∷ entry.Refuse 3 3 code.Gone 2 0 []
    ∷ entry.Done 2
    ∷ entry.Done 3
    ∷ []

-- where it ends: the driver was loaded twice, and ended twice
abbrev pub killed_twice_end : State
killed_twice_end = record (start killed_twice) {
  instances = instance_of 1 false ∷ instance_of 1 false ∷ [];
  threads = record (thread 9999 1 []) { done = true } ∷ record (thread 9999 1 []) { done = true } ∷ record (thread 9999 3 []) { done = true } ∷ [];
  shadows = record { current = 2; left = 0 } ∷ [];
  next_call = 4;
}

abbrev pub IsKilledTwice : Type 0
IsKilledTwice = IsWorked killed_twice killed_twice_history killed_twice_end
    (codes "history"
    ∷ codes "c1 call 1 disk/i1 size"
    ∷ codes "c2 call 2 disk/i1 size"
    ∷ codes "c3 kill i1"
    ∷ codes "c1 reload disk i2 0"
    ∷ codes "c1 again 1 disk/i2"
    ∷ codes "c2 again 2 disk/i2"
    ∷ codes "c3 kill i2"
    ∷ codes "c1 unwound 1"
    ∷ codes "c1 done"
    ∷ codes "c2 unwound 2"
    ∷ codes "c3 refuse 3 gone disk size"
    ∷ codes "c2 done"
    ∷ codes "c3 done"
    ∷ codes "replies"
    ∷ codes "c1 1 error 2"
    ∷ codes "c2 1 error 2"
    ∷ codes "c3 3 error 1"
    ∷ codes "report"
    ∷ [])
