use Rattle.std.proofs.Common.{◌-◌, [], length}
use Rattle.exchangeable_types.specs.Search.{Searching}
use Rattle.exchangeable_types.proofs.Nests.{Going}
use Rattle.exchangeable_types.proofs.nesting.scan.Given as goal

abbrev pub invariant-fields : goal.invariant-fields
invariant-fields l = record {
  searching : Searching l.part.lines.now l.seen.items [];
  going : Going l.part.lines.now l.fn.passed.items l.passed.items l.fn.waiting.items l.waiting.items l.number l.at;
}

abbrev pub decreases-fields : goal.decreases-fields
decreases-fields l = length l.part.lines.now - l.at
