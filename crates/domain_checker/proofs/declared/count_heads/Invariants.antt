use Rattle.std.proofs.Common.{◌≤◌}
use Rattle.domain_checker.proofs.declared.count_heads.Given as goal

abbrev pub invariant-lines : goal.invariant-lines
invariant-lines l = l.count ≤ l.place
