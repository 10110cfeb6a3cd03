-- A worked run: a native body writes a block through its import, reads it back, and returns. When
-- the driver has been killed its call is refused, and it traps. What a native body chooses is left
-- open by the definitions; here are choices that it may make.
use Rattle.std.specs.Prelude.{false, true, List, [], ◌∷◌, replicate, codes}
use Rattle.rl_defs.specs.declared.code.DomainLine.TheVariants as form
use Rattle.rl_defs.specs.declared.code.Native.TheVariants as native
use Rattle.rl_defs.specs.declared.values.Value.TheVariants as value
use Rattle.rl_defs.specs.declared.tables.Kind.TheVariants as kind
use Rattle.rl_defs.specs.declared.tables.Width.TheVariants as width
use Rattle.rl_defs.specs.declared.tables.Tables.{Tables}
use Rattle.rl_defs.specs.declared.tables.TraitRow.{TraitRow}
use Rattle.rl_defs.specs.declared.load.LoadRows.{LoadRows}
use Rattle.rl_defs.specs.declared.load.Command.{Command}
use Rattle.rl_defs.specs.declared.load.Command.TheVariants as command
use Rattle.rl_defs.specs.DomainValue.{Domain}
use Rattle.machine_defs.specs.declared.values.Arg.{Arg}
use Rattle.machine_defs.specs.declared.values.Arg.TheVariants as arg
use Rattle.machine_defs.specs.declared.values.Cause.TheVariants as cause
use Rattle.machine_defs.specs.declared.values.Owner.TheVariants as owner
use Rattle.machine_defs.specs.declared.values.RpcCode.TheVariants as code
use Rattle.machine_defs.specs.declared.entry.Entry.{Entry}
use Rattle.machine_defs.specs.declared.entry.Entry.TheVariants as entry
use Rattle.machine_defs.specs.State.{State, start}
use Rattle.worked_runs.specs.Parts.{u64, tables, has_methods, method, repeatable, domain, load_of, client, plain_load, thread, instance_of}
use Rattle.worked_runs.specs.WorkedRuns.{IsWorked}
use Rattle.worked_runs.specs.Driver.{struct_block, block_device, driver}

-- the interface of the file system: struct 1 is a file's name, and struct 2 a file's bytes
abbrev pub files : TraitRow
files = has_methods (codes "Files")
    (method (codes "mkfs") [] (u64 ∷ [])
    ∷ method (codes "create") (kind.Lent 1 ∷ []) (u64 ∷ u64 ∷ [])
    ∷ method (codes "find") (kind.Lent 1 ∷ []) (u64 ∷ u64 ∷ [])
    ∷ method (codes "size") (u64 ∷ []) (u64 ∷ u64 ∷ [])
    ∷ method (codes "read") (u64 ∷ u64 ∷ u64 ∷ kind.Own 2 ∷ []) (u64 ∷ u64 ∷ kind.Own 2 ∷ [])
    ∷ method (codes "write") (u64 ∷ u64 ∷ u64 ∷ kind.Lent 2 ∷ []) (u64 ∷ [])
    ∷ method (codes "remove") (kind.Lent 1 ∷ []) (u64 ∷ [])
    ∷ [])

abbrev pub files_tables : Tables
files_tables = tables
    (struct_block
    ∷ record { name = codes "Name"; flat = replicate 32 (kind.Num width.W8) }
    ∷ record { name = codes "Bytes"; flat = replicate 512 (kind.Num width.W8) }
    ∷ [])
    (block_device repeatable ∷ files ∷ [])

-- the file system, with its disk
abbrev pub file_system : Domain
file_system = domain files_tables
    (form.Domain (codes "Fs") (codes "Files") ∷ form.Import (codes "disk") (codes "BDev") ∷ form.Native native.Fs ∷ form.Close ∷ [])

-- call fs.mkfs(); kill drv; call fs.mkfs()
abbrev pub call_mkfs : Command
call_mkfs = command.Call 2 0 [] []

abbrev pub native_load : LoadRows
native_load = record (plain_load files_tables (driver files_tables ∷ file_system ∷ [])
    (load_of (codes "drv") 0 [] ∷ load_of (codes "fs") 1 (1 ∷ []) ∷ [])
    (client (codes "x") (call_mkfs ∷ command.Kill 1 ∷ call_mkfs ∷ []) ∷ [])) {
      device_load = 1;
      blocks = 4;
    }

-- the arguments of its calls of the disk: block 1, and the first object on loan
abbrev pub block_one : List Arg
block_one = arg.Num 1 ∷ []

abbrev pub block_one_from : List Arg
block_one_from = arg.Num 1 ∷ arg.Lent 1 ∷ []

abbrev pub native_history : List Entry
native_history =
    entry.Call 1 1 2 2 0 []
    ∷ entry.New 1 (owner.Instance 2) 1 0 []
    ∷ entry.Set 1 1 0 (7 ∷ 8 ∷ [])
    ∷ entry.Call 1 2 1 1 2 block_one_from
    ∷ entry.DevPut 1 1 1
    ∷ entry.Ret 1 2 []
    ∷ entry.Drop 1 1
    ∷ entry.Call 1 3 1 1 1 block_one
    ∷ entry.New 1 (owner.Instance 1) 2 0 []
    ∷ entry.DevGet 1 2 1
    ∷ entry.Ret 1 3 (value.Obj 2 ∷ [])
    ∷ entry.Drop 1 2
    ∷ entry.Ret 1 1 (value.Num 0 ∷ [])
    ∷ entry.Kill 1 1
    ∷ entry.Call 1 4 2 2 0 []
    ∷ entry.Refuse 1 5 code.Gone 1 0 []
    ∷ entry.Trap 1 2 cause.Io
    ∷ entry.Unwound 1 4
    ∷ entry.Done 1
    ∷ []

-- where it ends: both instances have ended, and block 1 is written
abbrev pub native_end : State
native_end = record (start native_load) {
  instances = instance_of 1 false ∷ instance_of 2 false ∷ [];
  threads = record (thread 9998 3 []) { done = true } ∷ [];
  blocks = replicate 64 0 ∷ (7 ∷ 8 ∷ replicate 62 0) ∷ replicate 64 0 ∷ replicate 64 0 ∷ [];
  next_object = 3;
  next_call = 6;
}

abbrev pub IsNativeOverDriver : Type 0
IsNativeOverDriver = IsWorked native_load native_history native_end
    (codes "history"
    ∷ codes "c1 call 1 fs/i2 mkfs"
    ∷ codes "c1 new i2 o1 Block"
    ∷ codes "c1 set o1 0 7 8"
    ∷ codes "c1 call 2 drv/i1 write 1 &o1"
    ∷ codes "c1 devput 1 o1"
    ∷ codes "c1 ret 2"
    ∷ codes "c1 drop o1"
    ∷ codes "c1 call 3 drv/i1 read 1"
    ∷ codes "c1 new i1 o2 Block"
    ∷ codes "c1 devget o2 1"
    ∷ codes "c1 ret 3 o2"
    ∷ codes "c1 drop o2"
    ∷ codes "c1 ret 1 0"
    ∷ codes "c1 kill i1"
    ∷ codes "c1 call 4 fs/i2 mkfs"
    ∷ codes "c1 refuse 5 gone drv size"
    ∷ codes "c1 trap i2 io"
    ∷ codes "c1 unwound 4"
    ∷ codes "c1 done"
    ∷ codes "replies"
    ∷ codes "c1 1 ok 0"
    ∷ codes "c1 3 error 2"
    ∷ codes "report"
    ∷ codes "i1 made 1 received 0 passed 1 freed 0"
    ∷ codes "i2 made 1 received 1 passed 0 freed 2"
    ∷ [])
