use Rattle.std.proofs.Common.{drop, nat_eq}
use Rattle.std.specs.Cmp.Lexicographic.{pointwise}
use Rattle.indexmap.specs.IndexMap.{get}
use Rattle.rl_defs.specs.CodeNames.{slots, struct_number}
use Rattle.domain_checker.proofs.Declaring.{Declares}
use Rattle.domain_checker.proofs.declared.slots_of.Given as goal

abbrev pub invariant-lines : goal.invariant-lines
invariant-lines l = Declares (get (pointwise nat_eq) l.declared.places) l.declared.types (struct_number l.tables) (slots (drop l.line-index l.lines)) (slots l.lines) l.line-index
