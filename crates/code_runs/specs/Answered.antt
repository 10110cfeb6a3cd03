-- What may be answered in a view.
use Rattle.std.specs.Prelude.{◌==◌, Bool, true, false, Option, Some, None, slice_get}
use Rattle.rl_defs.specs.declared.bundle.Numbered.{Numbered}
use Rattle.rl_defs.specs.declared.code.Instr.{Instr}
use Rattle.rl_defs.specs.declared.code.Instr.TheVariants as instr
use Rattle.rl_defs.specs.declared.code.DomainLine.{DomainLine}
use Rattle.rl_defs.specs.declared.code.DomainLine.TheVariants as line
use Rattle.machine_defs.specs.declared.frame.Answer.{Answer}
use Rattle.machine_defs.specs.declared.frame.Answer.TheVariants as answer
use Rattle.rl_defs.specs.DomainValue.{Domain}
use Rattle.machine_defs.specs.Sight.{Sight}
use Rattle.rl_defs.specs.CodeNames.{struct_number, results_of}
use Rattle.rl_defs.specs.CodeKinds.{kinds_at, kind_in, method_called}
use Rattle.rl_defs.specs.Registers.{Typing}
use Rattle.machine_defs.specs.CodeFits.{are_values}
use Rattle.rl_defs.specs.Registers.{Stand}
use Rattle.machine_defs.specs.Instructions.{object_in}
use Rattle.rl_defs.specs.CodeNames.{slot_number}
use Rattle.code_runs.specs.Suits.{is_held}

-- An answer suits an instruction: what is made is of the struct; what is taken stands in the slot,
-- or hangs in the cell; what comes back is of the method's results; any call may fail; and what
-- else is done has no answer but that it is done.
abbrev pub suits_instr : Typing → Domain → Sight → Stand → Instr → Answer → Bool
suits_instr types d sight s (instr.New a ty) (answer.Made o) = types.struct_of o == struct_number d.tables ty
suits_instr types d sight s (instr.Take a slot) (answer.Made o) = is_held (sight.slot (slot_number d slot)) o
suits_instr types d sight s (instr.Unhang a from place) (answer.Made o) = is_held (sight.hung (object_in s.regs from) place) o
suits_instr types d sight s (instr.Drop a) answer.Went = true
suits_instr types d sight s (instr.Set o i v) answer.Went = true
suits_instr types d sight s (instr.Wput i v) answer.Went = true
suits_instr types d sight s (instr.Put slot a) answer.Went = true
suits_instr types d sight s (instr.DevGet o k) answer.Went = true
suits_instr types d sight s (instr.DevPut k o) answer.Went = true
suits_instr types d sight s (instr.Hang o place v) answer.Went = true
suits_instr types d sight s (instr.Call c method args results e label) (answer.Back values) = are_values types (results_of (method_called d.tables (kind_in (kinds_at d s.at) c) method)) values
suits_instr types d sight s (instr.Call c method args results e label) (answer.Failed failure) = true
suits_instr types d sight s _ _ = false

-- an answer suits a line of domain code, and no other line has one
abbrev pub suits_form : Typing → Domain → Sight → Stand → DomainLine → Answer → Bool
suits_form types d sight s (line.Code i) a = suits_instr types d sight s i a
suits_form types d sight s _ a = false

abbrev pub suits_line : Typing → Domain → Sight → Stand → Option (Numbered DomainLine) → Answer → Bool
suits_line types d sight s None a = false
suits_line types d sight s (Some l) a = suits_form types d sight s l.form a

-- an answer suits the line that a frame stands at
abbrev pub answer_suits : Typing → Domain → Sight → Stand → Answer → Bool
answer_suits types d sight s a = suits_line types d sight s (slice_get d.lines s.at) a
