-- Lines that name nothing, move no object and go to no label.
use Rattle.std.specs.Prelude.{Bool, true, false}
use Rattle.rl_defs.specs.declared.code.Instr.TheVariants as instr
use Rattle.rl_defs.specs.declared.code.DomainLine.{DomainLine}
use Rattle.rl_defs.specs.declared.code.DomainLine.TheVariants as line

abbrev pub is_plain : DomainLine → Bool
is_plain (line.Code (instr.Const a n)) = true
is_plain (line.Code (instr.Copy a b)) = true
is_plain (line.Code (instr.Math o a b c)) = true
is_plain (line.Code (instr.Get a o i)) = true
is_plain _ = false
