use Rattle.std.proofs.Common.{◌≡◌, ◌++◌, drop}
use Rattle.idl_syntax.specs.IdlCanonical.{write_part}
use Rattle.idl_syntax.proofs.write.put_lines.Given as goal

abbrev pub invariant-lines : goal.invariant-lines
invariant-lines l = l.initial.bytes.items ++ write_part l.lines ≡ l.bytes.items ++ write_part (drop l.line-index l.lines)
