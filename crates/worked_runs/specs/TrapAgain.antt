-- A worked run: a driver traps at a block that its device hasn't. Behind its shadow the read is
-- issued again, and the driver loaded again traps too: the call ends with an error.
use Rattle.std.specs.Prelude.{false, true, List, [], ◌∷◌, None, codes}
use Rattle.machine_defs.specs.declared.values.Arg.TheVariants as arg
use Rattle.machine_defs.specs.declared.values.Owner.TheVariants as owner
use Rattle.machine_defs.specs.declared.values.Cause.TheVariants as cause
use Rattle.machine_defs.specs.declared.entry.Entry.{Entry}
use Rattle.machine_defs.specs.declared.entry.Entry.TheVariants as entry
use Rattle.rl_defs.specs.declared.load.LoadRows.{LoadRows}
use Rattle.machine_defs.specs.State.{State, start}
use Rattle.worked_runs.specs.Parts.{repeatable, client, thread, instance_of}
use Rattle.worked_runs.specs.WorkedRuns.{IsWorked}
use Rattle.worked_runs.specs.Driver.{device_tables, driver_load, read_block}

-- client `x` reads block 4 of the blocks 0 to 3
abbrev pub trap_again : LoadRows
trap_again = driver_load (device_tables repeatable) (client (codes "x") (read_block 4 ∷ []) ∷ []) []

abbrev pub trap_again_history : List Entry
trap_again_history =
    entry.Call 1 1 2 1 1 (arg.Num 4 ∷ [])
    ∷ entry.New 1 (owner.Instance 1) 1 0 []
    ∷ entry.Trap 1 1 cause.Device
    ∷ entry.Free 1
    ∷ entry.Reload 1 2 2 0
    ∷ entry.Again 1 1 2 2
    ∷ entry.New 1 (owner.Instance 2) 2 0 []
    ∷ entry.Trap 1 2 cause.Device
    ∷ entry.Free 2
    ∷ entry.Unwound 1 1
    ∷ entry.Done 1
    ∷ []

-- where it ends: the driver was loaded twice, and ended twice
abbrev pub trap_again_end : State
trap_again_end = record (start trap_again) {
  instances = instance_of 1 false ∷ instance_of 1 false ∷ [];
  threads = record (thread 9997 1 (None ∷ [])) { done = true } ∷ [];
  shadows = record { current = 2; left = 0 } ∷ [];
  next_object = 3;
  next_call = 2;
}

abbrev pub IsTrapAgain : Type 0
IsTrapAgain = IsWorked trap_again trap_again_history trap_again_end
    (codes "history"
    ∷ codes "c1 call 1 disk/i1 read 4"
    ∷ codes "c1 new i1 o1 Block"
    ∷ codes "c1 trap i1 device"
    ∷ codes "free o1"
    ∷ codes "c1 reload disk i2 0"
    ∷ codes "c1 again 1 disk/i2"
    ∷ codes "c1 new i2 o2 Block"
    ∷ codes "c1 trap i2 device"
    ∷ codes "free o2"
    ∷ codes "c1 unwound 1"
    ∷ codes "c1 done"
    ∷ codes "replies"
    ∷ codes "c1 1 error 2"
    ∷ codes "report"
    ∷ codes "i1 made 1 received 0 passed 0 freed 1"
    ∷ codes "i2 made 1 received 0 passed 0 freed 1"
    ∷ [])
