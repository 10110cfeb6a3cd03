use Rattle.std.proofs.Common.{map, drop, nat_eq}
use Rattle.std.specs.Cmp.Lexicographic.{pointwise}
use Rattle.indexmap.specs.IndexMap.{get}
use Rattle.domain_checker.proofs.Naming.{Finds}
use Rattle.domain_checker.proofs.names.methods_by_name.Given as goal

abbrev pub invariant-methods : goal.invariant-methods
invariant-methods l = Finds (get (pointwise nat_eq) l.table) l.number (map (λ s. s.name) (drop l.number l.methods)) (map (λ s. s.name) l.methods)
