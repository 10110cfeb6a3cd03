use Rattle.std.proofs.Common.{◌≡◌, ◌++◌, replicate}
use Rattle.bundle_format.proofs.line.put_blanks.Given as goal

abbrev pub invariant-blanks : goal.invariant-blanks
invariant-blanks l = l.out.items ≡ l.initial.out.items ++ replicate l.counter 32
