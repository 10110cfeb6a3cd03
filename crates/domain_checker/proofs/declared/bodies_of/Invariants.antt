use Rattle.std.proofs.Common.{◌≡◌, ℕ, List, drop, nat_eq}
use Rattle.std.specs.Cmp.Lexicographic.{pointwise}
use Rattle.indexmap.specs.IndexMap.{get}
use Rattle.domain_checker.specs.Numbering.{or_else, body_from}
use Rattle.domain_checker.proofs.declared.bodies_of.Given as goal

abbrev pub invariant-lines : goal.invariant-lines
invariant-lines l = (q : List ℕ) → or_else (get (pointwise nat_eq) l.bodies q) (body_from q (drop l.place l.lines) l.place) ≡ body_from q l.lines 0
