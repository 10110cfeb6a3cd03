use Rattle.std.proofs.Common.{◌≡◌, drop}
use Rattle.domain_checker.specs.Numbering.{body_from}
use Rattle.domain_checker.proofs.declared.body_in.Given as goal

abbrev pub invariant-lines : goal.invariant-lines
invariant-lines l = body_from l.name (drop l.place l.lines) l.place ≡ body_from l.name l.lines 0
