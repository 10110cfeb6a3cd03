-- The numbers of the lines that an interface part stands for, and how many they are.
use Rattle.std.specs.Prelude.{ℕ, ◌≤◌, List, length}
use Rattle.rl_defs.specs.declared.bundle.Numbered.{Numbered}
use Rattle.rl_defs.specs.declared.idl.IdlLine.{IdlLine}
use Rattle.rl_defs.specs.Parts.{StandFor}
use Rattle.rl_defs.specs.IdlParts.{interface_part}
use Rattle.rl_defs.specs.Interfaces.{Rises}

-- the lines that texts stand for are numbered upwards
abbrev pub PartRises : Type 0
PartRises = (first : ℕ) (texts : List (List ℕ)) (lines : List (Numbered IdlLine)) → StandFor interface_part first texts lines → Rises lines

-- texts stand for no more lines than there are texts
abbrev pub PartIsShort : Type 0
PartIsShort = (first : ℕ) (texts : List (List ℕ)) (lines : List (Numbered IdlLine)) → StandFor interface_part first texts lines → length lines ≤ length texts
