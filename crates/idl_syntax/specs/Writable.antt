-- What is written is read again.
use Rattle.std.specs.Prelude.{ℕ, ◌≤◌, List, [], ◌∷◌, length}
use Rattle.rl_defs.specs.declared.bundle.Numbered.{Numbered}
use Rattle.rl_defs.specs.declared.idl.IdlLine.{IdlLine}
use Rattle.rl_defs.specs.Lines.{lines_of}
use Rattle.rl_defs.specs.Parts.{StandFor}
use Rattle.rl_defs.specs.IdlParts.{interface_part}
use Rattle.rl_defs.specs.IdlForms.{spell_line, IsForm, IsIdlLine}
use Rattle.idl_syntax.specs.IdlCanonical.{canonical, depth_of}
use Rattle.rl_text.specs.Writable.{AreWritable, written_inside, renumbered}

-- A text that was written for a line is that line, where its types are types, its names are names, and it is no longer than a line
-- may be.
abbrev pub IsReadAgain : IdlLine → List ℕ → Type 0
IsReadAgain line text = IsForm line → AreWritable (spell_line canonical line) → length text ≤ 2048 → IsIdlLine line text

-- a line of a part as it is written, without its line feed
abbrev pub written : IdlLine → List ℕ
written form = written_inside (depth_of form) (spell_line canonical form)

-- each line's types are types, its names are names, and it is no longer than a line may be
abbrev pub CanBeRead : List (Numbered IdlLine) → Type 0
CanBeRead [] = Unit {0}
CanBeRead (line ∷ lines) = (IsForm line.form × AreWritable (spell_line canonical line.form) × (length (written line.form) ≤ 2048)) × CanBeRead lines

-- A text that was written for a part stands for the same lines, but for their numbers.
abbrev pub IsPartReadAgain : List (Numbered IdlLine) → List ℕ → Type 0
IsPartReadAgain lines text = CanBeRead lines → (first : ℕ) → StandFor interface_part first (lines_of text) (renumbered first lines)
