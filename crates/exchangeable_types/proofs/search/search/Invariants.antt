use Rattle.std.proofs.Common.{◌≡◌, ◌+◌, ◌*◌, length, Some, true}
use Rattle.std.specs.Prelude.{slice_get}
use Rattle.exchangeable_types.specs.Search.{Searching, AllLead, unmarked_count}
use Rattle.exchangeable_types.proofs.search.search.Given as goal

abbrev pub invariant-search : goal.invariant-search
invariant-search l = record {
  searching : Searching l.part.lines.now l.seen.items l.waiting.items;
  leads : AllLead l.part.lines.now l.waiting.items l.first;
  here : slice_get l.seen.items l.first ≡ Some true;
}

abbrev pub decreases-search : goal.decreases-search
decreases-search l = 2 * unmarked_count l.seen.items + length l.waiting.items
