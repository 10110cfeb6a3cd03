use Rattle.std.proofs.Common.{◌≡◌, ℕ, List, drop, nat_eq}
use Rattle.std.specs.Cmp.Lexicographic.{pointwise}
use Rattle.indexmap.specs.IndexMap.{get}
use Rattle.rl_defs.specs.CodeNames.{find_label}
use Rattle.domain_checker.specs.Numbering.{or_else}
use Rattle.domain_checker.proofs.declared.labels_from.Given as goal

abbrev pub invariant-lines : goal.invariant-lines
invariant-lines l = (q : List ℕ) → or_else (get (pointwise nat_eq) l.labels q) (find_label q (drop l.place l.lines) l.place) ≡ find_label q (drop l.first l.lines) l.first
