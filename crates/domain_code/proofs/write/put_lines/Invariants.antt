use Rattle.std.proofs.Common.{◌≡◌, ◌++◌, drop}
use Rattle.domain_code.specs.DomainCanonical.{write_lines}
use Rattle.domain_code.proofs.write.put_lines.Given as goal

abbrev pub invariant-lines : goal.invariant-lines
invariant-lines l = l.initial.bytes.items ++ write_lines 0 l.lines ≡ l.bytes.items ++ write_lines l.open_blocks (drop l.line-index l.lines)
