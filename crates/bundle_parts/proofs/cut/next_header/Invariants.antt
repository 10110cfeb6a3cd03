use Rattle.std.proofs.Common.{◌-◌, ◌≤◌, length, map}
use Rattle.rl_text.specs.Places.{text_of}
use Rattle.bundle_parts.specs.Cuts.{NoHeader}
use Rattle.bundle_parts.proofs.cut.next_header.Given as goal

abbrev pub invariant-lines : goal.invariant-lines
invariant-lines l = record {
  behind : l.from ≤ l.place;
  inside : l.place ≤ length l.lines;
  none : NoHeader (map (text_of l.bytes) l.lines) l.from l.place;
}

abbrev pub decreases-lines : goal.decreases-lines
decreases-lines l = length l.lines - l.place
