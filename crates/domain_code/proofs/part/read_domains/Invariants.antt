use Rattle.std.proofs.Common.{◌≡◌, ◌+◌, map}
use Rattle.rl_text.specs.Places.{text_of, first_number}
use Rattle.domain_code.proofs.PartLaws.{ReadSoFar}
use Rattle.domain_code.proofs.part.read_domains.Given as goal

abbrev pub invariant-lines : goal.invariant-lines
invariant-lines l = record {
  count : l.number ≡ first_number l.lines + l.line-index;
  so_far : ReadSoFar (first_number l.lines) (map (text_of l.bytes) l.lines) l.line-index l.block l.domains.items;
}
