-- The canonical text of a domain.
use Rattle.std.specs.Prelude.{ℕ, ◌-◌, List, [], ◌∷◌, ◌++◌}
use Rattle.rl_defs.specs.declared.code.DomainLine.{DomainLine}
use Rattle.rl_defs.specs.declared.code.DomainLine.TheVariants as line
use Rattle.rl_defs.specs.Domains.{Lines}
use Rattle.rl_defs.specs.DomainForms.{spell_line}
use Rattle.rl_text.specs.Canonical.{render_line}

-- how many blocks are open round a line, where so many are open behind the line before it; a `}` stands outside the block that it closes
abbrev pub depth_of : ℕ → DomainLine → ℕ
depth_of open_blocks line.Close = open_blocks - 1
depth_of open_blocks form = open_blocks

-- how many blocks are open behind a line
abbrev pub depth_behind : ℕ → DomainLine → ℕ
depth_behind open_blocks (line.Domain name has) = 1
depth_behind open_blocks (line.Function name) = 2
depth_behind open_blocks line.Close = depth_of open_blocks line.Close
depth_behind open_blocks form = open_blocks

-- lines, each with four blanks for each block that is open round it, and a line feed
unfoldable pub write_lines : ℕ → Lines → List ℕ
write_lines open_blocks [] = []
write_lines open_blocks (l ∷ ls) = render_line (depth_of open_blocks l.form) (spell_line l.form) ++ write_lines (depth_behind open_blocks l.form) ls

-- a whole domain
abbrev pub write_domain : Lines → List ℕ
write_domain lines = write_lines 0 lines
