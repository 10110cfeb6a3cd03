use Rattle.std.proofs.Common.{◌-◌, length}
use Rattle.exchangeable_types.proofs.Searches.{Scanning}
use Rattle.exchangeable_types.proofs.search.scan.Given as goal

abbrev pub invariant-fields : goal.invariant-fields
invariant-fields l = Scanning l.part.lines.now l.fn.seen.items l.seen.items l.fn.waiting.items l.waiting.items l.number l.at

abbrev pub decreases-fields : goal.decreases-fields
decreases-fields l = length l.part.lines.now - l.at
