use Rattle.std.proofs.Common.{map, drop}
use Rattle.rl_text.specs.Places.{text_of}
use Rattle.bundle_format.proofs.Weaving.{Weaves}
use Rattle.bundle_format.proofs.weave.weave.Given as goal

abbrev pub invariant-lines : goal.invariant-lines
invariant-lines l = Weaves (map (text_of l.canonical.bytes.now) l.canonical.lines.now) (map (text_of l.bytes) l.lines) (map (text_of l.queue.bytes.now) l.queue.lines.now) (map (text_of l.bytes) (drop l.line-index l.lines)) l.out.items
