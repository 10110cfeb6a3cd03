use Rattle.std.proofs.Common.{take, nat_eq}
use Rattle.std.specs.Cmp.Lexicographic.{pointwise}
use Rattle.indexmap.specs.IndexMap.{get}
use Rattle.domain_checker.specs.Numbering.{AreLooks}
use Rattle.domain_checker.proofs.tables.methods_of_traits.Given as goal

abbrev pub invariant-traits : goal.invariant-traits
invariant-traits l = AreLooks (get (pointwise nat_eq)) l.all.items (take l.row-index l.traits)
