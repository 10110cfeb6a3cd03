-- The slot that an instruction names.
use Rattle.std.specs.Prelude.{ℕ, List, Option, Some, None}
use Rattle.std.specs.Option.{option_and_then}
use Rattle.rl_defs.specs.declared.code.Instr.{Instr}
use Rattle.rl_defs.specs.declared.code.Instr.TheVariants as instr
use Rattle.rl_defs.specs.DomainValue.{Domain}
use Rattle.machine_defs.specs.Frames.{instr_at}

-- the slot that a `take` or a `put` names
abbrev pub slot_of_instr : Instr → Option (List ℕ)
slot_of_instr (instr.Take a slot) = Some slot
slot_of_instr (instr.Put slot a) = Some slot
slot_of_instr _ = None

-- the slot that the instruction at a line names
abbrev pub slot_named : Domain → ℕ → Option (List ℕ)
slot_named d line = option_and_then slot_of_instr (instr_at d line)
