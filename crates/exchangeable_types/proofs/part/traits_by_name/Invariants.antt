use Rattle.std.proofs.Common.{nat_eq}
use Rattle.std.specs.Cmp.Lexicographic.{pointwise}
use Rattle.indexmap.specs.IndexMap.{get}
use Rattle.rl_defs.specs.Interfaces.{trait_name}
use Rattle.exchangeable_types.proofs.Naming.{Counted}
use Rattle.exchangeable_types.proofs.part.traits_by_name.Given as goal

abbrev pub invariant-lines : goal.invariant-lines
invariant-lines l = Counted trait_name l.lines l.line-index l.count (get (pointwise nat_eq) l.table)
