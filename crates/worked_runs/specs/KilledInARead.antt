-- A worked run: a driver is killed while it reads a block, its object is freed, and behind its
-- shadow the read is issued again.
use Rattle.std.specs.Prelude.{true, false, List, [], ◌∷◌, replicate, Some, codes}
use Rattle.machine_defs.specs.declared.values.Arg.TheVariants as arg
use Rattle.rl_defs.specs.declared.values.Value.TheVariants as value
use Rattle.machine_defs.specs.declared.values.Owner.TheVariants as owner
use Rattle.machine_defs.specs.declared.entry.Entry.{Entry}
use Rattle.machine_defs.specs.declared.entry.Entry.TheVariants as entry
use Rattle.rl_defs.specs.declared.load.LoadRows.{LoadRows}
use Rattle.machine_defs.specs.State.{State, Root, start}
use Rattle.worked_runs.specs.Parts.{repeatable, client, thread, instance_of}
use Rattle.worked_runs.specs.WorkedRuns.{IsWorked}
use Rattle.worked_runs.specs.Driver.{device_tables, driver_load, read_block, kill_disk}

-- client `x` reads block 0, and `y` kills the driver
abbrev pub killed_in_a_read : LoadRows
killed_in_a_read = driver_load (device_tables repeatable) (client (codes "x") (read_block 0 ∷ []) ∷ client (codes "y") (kill_disk ∷ []) ∷ []) (1 ∷ 1 ∷ 2 ∷ [])

abbrev pub killed_in_a_read_history : List Entry
killed_in_a_read_history =
    entry.Call 1 1 2 1 1 (arg.Num 0 ∷ [])
    ∷ entry.New 1 (owner.Instance 1) 1 0 []
    ∷ entry.Kill 2 1
    ∷ entry.Free 1
    ∷ entry.Reload 1 2 2 0
    ∷ entry.Again 1 1 2 2
    ∷ entry.Done 2
    ∷ entry.New 1 (owner.Instance 2) 2 0 []
    ∷ entry.DevGet 1 2 0
    ∷ entry.Ret 1 1 (value.Obj 2 ∷ [])
    ∷ entry.Done 1
    ∷ []

-- where it ends: the client has the second block object, with what was read
abbrev pub killed_in_a_read_end : State
killed_in_a_read_end = record (start killed_in_a_read) {
  instances = instance_of 1 false ∷ instance_of 1 true ∷ [];
  objects = record { number = 2; ty = 0; placement = Root (owner.Client 1); cells = replicate 64 0 } ∷ [];
  threads = record (thread 9995 1 (Some (value.Obj 2) ∷ [])) { done = true } ∷ record (thread 9999 1 []) { done = true } ∷ [];
  shadows = record { current = 2; left = 0 } ∷ [];
  next_object = 3;
  next_call = 2;
}

abbrev pub IsKilledInARead : Type 0
IsKilledInARead = IsWorked killed_in_a_read killed_in_a_read_history killed_in_a_read_end
    (codes "history"
    ∷ codes "c1 call 1 disk/i1 read 0"
    ∷ codes "c1 new i1 o1 Block"
    ∷ codes "c2 kill i1"
    ∷ codes "free o1"
    ∷ codes "c1 reload disk i2 0"
    ∷ codes "c1 again 1 disk/i2"
    ∷ codes "c2 done"
    ∷ codes "c1 new i2 o2 Block"
    ∷ codes "c1 devget o2 0"
    ∷ codes "c1 ret 1 o2"
    ∷ codes "c1 done"
    ∷ codes "replies"
    ∷ codes "c1 1 ok o2"
    ∷ codes "report"
    ∷ codes "o2 Block c1 0"
    ∷ codes "c1 made 0 received 1 passed 0 freed 0"
    ∷ codes "i1 made 1 received 0 passed 0 freed 1"
    ∷ codes "i2 made 1 received 0 passed 1 freed 0"
    ∷ [])
