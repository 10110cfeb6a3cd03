-- The shipped driver of a block device, as lines: its interface, and its code.
use Rattle.std.specs.Prelude.{◌≡◌, ℕ, List, [], ◌∷◌, codes}
use Rattle.std.proofs.Common.{lit<}
use Rattle.rl_defs.specs.declared.tables.Width.TheVariants as width
use Rattle.rl_defs.specs.declared.idl.Base.TheVariants as base
use Rattle.rl_defs.specs.declared.idl.Wrap.TheVariants as wrap
use Rattle.rl_defs.specs.declared.idl.TypeText.{TypeText}
use Rattle.rl_defs.specs.declared.idl.Param.{Param}
use Rattle.rl_defs.specs.declared.idl.ResultText.TheVariants as result
use Rattle.rl_defs.specs.declared.idl.IdlLine.{IdlLine}
use Rattle.rl_defs.specs.declared.idl.IdlLine.TheVariants as idl
use Rattle.rl_defs.specs.declared.code.Register.{Register}
use Rattle.rl_defs.specs.declared.code.DomainLine.{DomainLine}
use Rattle.rl_defs.specs.declared.code.DomainLine.TheVariants as line
use Rattle.rl_defs.specs.declared.code.Instr.TheVariants as instr
use Rattle.rl_defs.specs.declared.load.LoadRows.{LoadRows}
use Rattle.rl_defs.specs.Parts.{forms_of}
use Rattle.rl_defs.specs.Rows.{domain_of_load}

abbrev pub r0 : Register
r0 = record { number = 0; below = lit< tt }

abbrev pub r1 : Register
r1 = record { number = 1; below = lit< tt }

-- the lines of its interface
abbrev pub u64_type : TypeText
u64_type = record { wraps = []; base = base.Num width.W64 }

abbrev pub block_number : Param
block_number = record { name = codes "n"; ty = u64_type }

abbrev pub interface_forms : List IdlLine
interface_forms =
    idl.Struct (codes "Block")
    ∷ idl.Field (codes "w") (record { wraps = wrap.Array 64 ∷ []; base = base.Num width.W64 })
    ∷ idl.Close
    ∷ idl.Trait (codes "BDev")
    ∷ idl.Idempotent
    ∷ idl.Method (codes "size") [] (result.Rpc (u64_type ∷ []))
    ∷ idl.Idempotent
    ∷ idl.Method (codes "read") (block_number ∷ []) (result.Rpc (record { wraps = []; base = base.RRef (codes "Block") } ∷ []))
    ∷ idl.Idempotent
    ∷ idl.Method (codes "write") (block_number ∷ record { name = codes "b"; ty = record { wraps = []; base = base.LentRRef (codes "Block") } } ∷ []) (result.Rpc [])
    ∷ idl.Close
    ∷ []

-- the lines of its code
abbrev pub driver_forms : List DomainLine
driver_forms =
    line.Domain (codes "Driver") (codes "BDev")
    ∷ line.Function (codes "size")
    ∷ line.Code (instr.DevSize r0)
    ∷ line.Code (instr.Ret (r0 ∷ []))
    ∷ line.Close
    ∷ line.Function (codes "read")
    ∷ line.Code (instr.New r1 (codes "Block"))
    ∷ line.Code (instr.DevGet r1 r0)
    ∷ line.Code (instr.Ret (r1 ∷ []))
    ∷ line.Close
    ∷ line.Function (codes "write")
    ∷ line.Code (instr.DevPut r0 r1)
    ∷ line.Code (instr.Ret [])
    ∷ line.Close
    ∷ line.Close
    ∷ []

-- a load runs the driver: the lines of its domain are the driver's, whatever their numbers in the
-- bundle are
abbrev pub RunsDriver : LoadRows → ℕ → Type 0
RunsDriver L k = forms_of (domain_of_load L k).lines ≡ driver_forms
