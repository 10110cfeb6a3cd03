-- The canonical text of lines, whatever their forms are.
use Rattle.std.specs.Prelude.{ℕ, List, [], ◌∷◌, ◌++◌}
use Rattle.rl_defs.specs.declared.bundle.Numbered.{Numbered}
use Rattle.rl_defs.specs.Tokens.{Token}
use Rattle.rl_text.specs.Canonical.{render_line}

-- lines, each with four blanks for each block that is open round it, its tokens, and a line feed
unfoldable pub write_lines : {Form : Type 0} → (Form → ℕ) → (Form → List Token) → List (Numbered Form) → List ℕ
write_lines depth spell [] = []
write_lines depth spell (l ∷ ls) = render_line (depth l.form) (spell l.form) ++ write_lines depth spell ls
