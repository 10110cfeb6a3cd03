use Rattle.std.proofs.Common.{drop, nat_eq}
use Rattle.std.specs.Cmp.Lexicographic.{pointwise}
use Rattle.indexmap.specs.IndexMap.{get}
use Rattle.rl_defs.specs.CodeNames.{imports, trait_number}
use Rattle.domain_checker.proofs.Declaring.{Declares}
use Rattle.domain_checker.proofs.declared.imports_of.Given as goal

abbrev pub invariant-lines : goal.invariant-lines
invariant-lines l = Declares (get (pointwise nat_eq) l.declared.places) l.declared.types (trait_number l.tables) (imports (drop l.line-index l.lines)) (imports l.lines) l.line-index
