-- Lines with a number that must be written in decimal digits.
use Rattle.std.specs.Prelude.{Bool, true, false}
use Rattle.rl_defs.specs.declared.code.Instr.TheVariants as instr
use Rattle.rl_defs.specs.declared.code.DomainLine.{DomainLine}
use Rattle.rl_defs.specs.declared.code.DomainLine.TheVariants as line

-- the line names the place of a cell that is hung into, or taken from
abbrev pub names_place : DomainLine → Bool
names_place (line.Code (instr.Hang o place v)) = true
names_place (line.Code (instr.Unhang a o place)) = true
names_place _ = false
