use Rattle.std.proofs.Common.{◌≡◌, ◌+◌, map}
use Rattle.rl_text.specs.Places.{text_of, first_number}
use Rattle.rl_text.proofs.PartRules.{SoFar}
use Rattle.rl_text.proofs.part.read_lines.Given as goal

abbrev pub invariant-lines : goal.invariant-lines
invariant-lines g l = record {
  count : l.number ≡ first_number l.lines + l.line-index;
  so_far : SoFar g.F.PartLine.grammar (first_number l.lines) (map (text_of l.bytes) l.lines) l.line-index l.forms (g.F.PartLine.block_of l.block);
}
