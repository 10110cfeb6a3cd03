use Rattle.std.proofs.Common.{◌≡◌, ◌+◌, ◌*◌, [], length, Some, true}
use Rattle.std.specs.Prelude.{slice_get}
use Rattle.exchangeable_types.specs.Search.{Searching, unmarked_count}
use Rattle.exchangeable_types.specs.Nesting.{Passing}
use Rattle.exchangeable_types.proofs.nesting.may_nest.Given as goal

abbrev pub invariant-search : goal.invariant-search
invariant-search l = record {
  searching : Searching l.part.lines.now l.seen.items [];
  passing : Passing l.part.lines.now l.passed.items l.waiting.items;
  here : slice_get l.passed.items l.first ≡ Some true;
}

abbrev pub decreases-search : goal.decreases-search
decreases-search l = 2 * unmarked_count l.passed.items + length l.waiting.items
