-- A driver of a block device, behind a shadow.
use Rattle.std.specs.Prelude.{ℕ, List, [], ◌∷◌, replicate, codes}
use Rattle.rl_defs.specs.declared.tables.Kind.{Kind}
use Rattle.rl_defs.specs.declared.tables.Kind.TheVariants as kind
use Rattle.rl_defs.specs.declared.tables.StructRow.{StructRow}
use Rattle.rl_defs.specs.declared.tables.TraitRow.{TraitRow}
use Rattle.rl_defs.specs.declared.tables.MethodRow.{MethodRow}
use Rattle.rl_defs.specs.declared.tables.Tables.{Tables}
use Rattle.rl_defs.specs.declared.code.DomainLine.TheVariants as form
use Rattle.rl_defs.specs.declared.code.Instr.TheVariants as instr
use Rattle.rl_defs.specs.declared.load.LoadRows.{LoadRows}
use Rattle.rl_defs.specs.declared.load.ClientRow.{ClientRow}
use Rattle.rl_defs.specs.declared.load.Command.{Command}
use Rattle.rl_defs.specs.declared.load.Command.TheVariants as command
use Rattle.rl_defs.specs.declared.load.ScriptArg.TheVariants as given
use Rattle.rl_defs.specs.DomainValue.{Domain}
use Rattle.worked_runs.specs.Parts.{u64, tables, has_methods, r0, r1, domain, load_of, plain_load}

-- `struct Block { w: [u64; 64] }`
abbrev pub struct_block : StructRow
struct_block = record { name = codes "Block"; flat = replicate 64 u64 }

-- The interface of a block device, whose three methods are all `repeatable`, or all just a
-- `method`. A block stands first of the structs.
abbrev pub block_device : (List ℕ → List Kind → List Kind → MethodRow) → TraitRow
block_device row = has_methods (codes "BDev")
    (row (codes "size") [] (u64 ∷ [])
    ∷ row (codes "read") (u64 ∷ []) (kind.Own 0 ∷ [])
    ∷ row (codes "write") (u64 ∷ kind.Lent 0 ∷ []) []
    ∷ [])

abbrev pub device_tables : (List ℕ → List Kind → List Kind → MethodRow) → Tables
device_tables row = tables (struct_block ∷ []) (block_device row ∷ [])

-- The driver's code. `size` begins at line 2, `read` at line 6, `write` at line 11.
abbrev pub driver : Tables → Domain
driver of = domain of
    (form.Domain (codes "Driver") (codes "BDev")
    ∷ form.Function (codes "size")
    ∷ form.Code (instr.DevSize r0)
    ∷ form.Code (instr.Ret (r0 ∷ []))
    ∷ form.Close
    ∷ form.Function (codes "read")
    ∷ form.Code (instr.New r1 (codes "Block"))
    ∷ form.Code (instr.DevGet r1 r0)
    ∷ form.Code (instr.Ret (r1 ∷ []))
    ∷ form.Close
    ∷ form.Function (codes "write")
    ∷ form.Code (instr.DevPut r0 r1)
    ∷ form.Code (instr.Ret [])
    ∷ form.Close
    ∷ form.Close
    ∷ [])

-- The driver is load 1, with a device of 4 blocks. Its shadow `disk`, with one restart, is target
-- 2.
abbrev pub driver_load : Tables → List ClientRow → List ℕ → LoadRows
driver_load of clients order = record (plain_load of (driver of ∷ []) (load_of (codes "drv") 0 [] ∷ []) clients) {
  shadows = record { name = codes "disk"; load = 1; restarts = 1 } ∷ [];
  order = order;
  device_load = 1;
  blocks = 4;
}

abbrev pub call_size : Command
call_size = command.Call 2 0 [] []

-- the block's number is an argument, and the client's first name holds what was read
abbrev pub read_block : ℕ → Command
read_block n = command.Call 2 1 (given.Num n ∷ []) (0 ∷ [])

abbrev pub kill_disk : Command
kill_disk = command.Kill 2
