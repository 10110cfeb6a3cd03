-- The canonical text of an interface part.
use Rattle.std.specs.Prelude.{ℕ, true, List, [], ◌∷◌, ◌++◌}
use Rattle.rl_defs.specs.declared.bundle.Numbered.{Numbered}
use Rattle.rl_defs.specs.declared.idl.IdlLine.{IdlLine}
use Rattle.rl_defs.specs.declared.idl.IdlLine.TheVariants.{Struct, Field, Trait, Idempotent, Method, Close}
use Rattle.rl_defs.specs.IdlForms.{Choice, spell_line}
use Rattle.rl_text.specs.Canonical.{render, render_line}

-- `pub` stands before a struct, a trait and a field, and a comma behind a field
abbrev pub canonical : Choice
canonical = record { public = true; comma = true }

-- how many blocks are open round a line
abbrev pub depth_of : IdlLine → ℕ
depth_of (Field name ty) = 1
depth_of Idempotent = 1
depth_of (Method name params result) = 1
depth_of _ = 0

-- a line by itself: without blanks before it, and without a line feed
abbrev pub write_line : IdlLine → List ℕ
write_line form = render (spell_line canonical form)

-- a whole part: each line with four blanks for each block that is open round it, and a line feed
unfoldable pub write_part : List (Numbered IdlLine) → List ℕ
write_part [] = []
write_part (line ∷ lines) = render_line (depth_of line.form) (spell_line canonical line.form) ++ write_part lines
