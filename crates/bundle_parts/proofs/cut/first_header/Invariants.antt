use Rattle.std.proofs.Common.{◌≡◌, map}
use Rattle.rl_text.specs.Places.{text_of}
use Rattle.bundle_parts.proofs.Cutting.{AreSkipped}
use Rattle.bundle_parts.proofs.cut.first_header.Given as goal

abbrev pub invariant-lines : goal.invariant-lines
invariant-lines l = record {
  count : l.place ≡ l.line-index;
  skipped : AreSkipped (map (text_of l.bytes) l.lines) l.line-index;
}
