use Rattle.std.proofs.Common.{◌≡◌, ◌++◌, drop}
use Rattle.exchangeable_types.specs.Numbering.{starts_from}
use Rattle.exchangeable_types.proofs.part.starts_of.Given as goal

abbrev pub invariant-lines : goal.invariant-lines
invariant-lines l = l.starts ++ starts_from l.k (drop l.k l.lines) ≡ starts_from 0 l.lines
