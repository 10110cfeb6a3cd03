use Rattle.std.proofs.Common.{◌≡◌, [], None, map, drop, nat_eq}
use Rattle.std.specs.Cmp.Lexicographic.{pointwise}
use Rattle.indexmap.specs.IndexMap.{get}
use Rattle.domain_checker.proofs.Naming.{Finds}
use Rattle.domain_checker.proofs.names.structs_by_name.Given as goal

abbrev pub invariant-structs : goal.invariant-structs
invariant-structs l = record {
  finds : Finds (get (pointwise nat_eq) l.table) l.number (map (λ s. s.name) (drop l.number l.structs)) (map (λ s. s.name) l.structs);
  named : get (pointwise nat_eq) l.table [] ≡ None;
}
