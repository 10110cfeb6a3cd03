use Rattle.std.proofs.Common.{length, ◌-◌, ◌≡◌, ◌≤◌, map, drop, ◌++◌}
use Rattle.rl_defs.specs.Lines.{lines_of}
use Rattle.rl_text.specs.Places.{text_of, Follow}
use Rattle.rl_text.proofs.line.lines.Given as goal

abbrev pub invariant-lines : goal.invariant-lines
invariant-lines l = record {
  within : l.start ≤ length l.bytes;
  count : length l.all.items ≤ l.start;
  texts : lines_of l.bytes ≡ map (text_of l.bytes) l.all.items ++ lines_of (drop l.start l.bytes);
  places : Follow l.bytes 1 0 l.all.items l.start;
}

abbrev pub decreases-lines : goal.decreases-lines
decreases-lines l = length l.bytes - l.start
