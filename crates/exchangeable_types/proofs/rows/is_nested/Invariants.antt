use Rattle.std.proofs.Common.{[]}
use Rattle.exchangeable_types.specs.Search.{Searching}
use Rattle.exchangeable_types.proofs.RowLaws.{NoneBefore}
use Rattle.exchangeable_types.proofs.rows.is_nested.Given as goal

abbrev pub invariant-kinds : goal.invariant-kinds
invariant-kinds l = record {
  searching : Searching l.part.lines.now l.seen.items [];
  none : NoneBefore l.part.lines.now l.kinds l.kind-index;
}
