use Rattle.std.proofs.Common.{◌≡◌, ◌++◌, drop}
use Rattle.bundle_syntax.specs.LinesCanonical.{write_lines}
use Rattle.bundle_syntax.proofs.written.put_lines.Given as goal

abbrev pub invariant-lines : goal.invariant-lines
invariant-lines g l = l.initial.bytes.items ++ write_lines g.F.Written.depth_of g.F.Written.spell l.lines ≡ l.bytes.items ++ write_lines g.F.Written.depth_of g.F.Written.spell (drop l.line-index l.lines)
