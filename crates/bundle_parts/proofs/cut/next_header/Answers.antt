use Rattle.std.proofs.Common.{ℕ, List, map, arith}
use Rattle.std.proofs.lemmas.List.{length-map}
use Rattle.rl_text.specs.declared.line.Line.{Line}
use Rattle.rl_text.specs.Places.{text_of}
use Rattle.rl_text.proofs.ListPlaces.{line_at, line_here}
use Rattle.bundle_parts.proofs.Cutting.{next_found, next_passed, next_end}
use Rattle.bundle_parts.proofs.cut.next_header.Goals as goal

pub header_in-requires : goal.header_in-requires
header_in-requires c = (line_here _ 1 c.args.lines.now c.lines.place c.requires.numbered (omega arith)).within

pub returns-in-Some : goal.returns-in-Some
returns-in-Some c =
    let lines : List Line = c.args.lines.now in
    let i : ℕ = c.lines.place in
    let here = line_here c.args.bytes.now 1 lines i c.requires.numbered (omega arith) in
    next_found (map (text_of c.args.bytes.now) lines) c.args.from i (text_of c.args.bytes.now (line_at lines i)) c.in-Some.header here.text c.lines.invariant.behind c.lines.invariant.none (rw c.in-Some.is at c.in_ok-found.ensures)

pub lines-preserved : goal.lines-preserved
lines-preserved c =
    let lines : List Line = c.args.lines.now in
    let i : ℕ = c.lines.place in
    let here = line_here c.args.bytes.now 1 lines i c.requires.numbered (omega arith) in
    record {
      behind = omega (arith, c.lines.invariant.behind);
      inside = omega arith;
      none = next_passed (map (text_of c.args.bytes.now) lines) c.args.from i (text_of c.args.bytes.now (line_at lines i)) here.text c.lines.invariant.none (rw c.in-None.is at c.in_ok-found.ensures);
    }

pub returns : goal.returns
returns c =
    let lines : List Line = c.args.lines.now in
    next_end (map (text_of c.args.bytes.now) lines) c.args.from c.lines.place (omega (arith, c.lines.invariant.inside, length-map lines (text_of c.args.bytes.now))) c.lines.invariant.behind c.lines.invariant.none
