use Rattle.std.proofs.Common.{ℕ, List, map, refl, arith, rules}
use Rattle.std.proofs.lemmas.List.{length-map}
use Rattle.rl_text.specs.declared.line.Line.{Line}
use Rattle.rl_text.specs.Places.{text_of}
use Rattle.rl_text.proofs.ListPlaces.{line_at, line_here}
use Rattle.bundle_parts.proofs.Cutting.{skip_more, fault_first, other_refused, header_begins, end_begins}
use Rattle.bundle_parts.proofs.cut.first_header.Goals as goal

pub look-requires : goal.look-requires
look-requires c = (line_here _ _ c.args.lines.now c.lines.line-index c.requires (omega arith)).within

pub lines-init : goal.lines-init
lines-init c = record { count = refl; skipped = λ place text lt e. absurd (omega arith) }

pub returns-in-Header : goal.returns-in-Header
returns-in-Header c =
    let lines : List Line = c.args.lines.now in
    let i : ℕ = c.lines.line-index in
    let here = line_here c.args.bytes.now 1 lines i c.requires (omega arith) in
    header_begins (map (text_of c.args.bytes.now) lines) i c.lines.place (text_of c.args.bytes.now (line_at lines i)) c.in-Header.header here.text c.lines.invariant.count c.lines.invariant.skipped (rw c.in-Header.is at c.in_ok-sight.ensures)

pub returns-in-Other : goal.returns-in-Other
returns-in-Other c =
    let lines : List Line = c.args.lines.now in
    let i : ℕ = c.lines.line-index in
    let here = line_here c.args.bytes.now 1 lines i c.requires (omega arith) in
    other_refused (map (text_of c.args.bytes.now) lines) i (line_at lines i).number (text_of c.args.bytes.now (line_at lines i)) _ c.refused.ensures here.text (omega (arith, here.number)) c.lines.invariant.skipped (rw c.in-Other.is at c.in_ok-sight.ensures)

pub returns-in_err-sight : goal.returns-in_err-sight
returns-in_err-sight c =
    let lines : List Line = c.args.lines.now in
    let i : ℕ = c.lines.line-index in
    let here = line_here c.args.bytes.now 1 lines i c.requires (omega arith) in
    let fault = fault_first (map (text_of c.args.bytes.now) lines) i (line_at lines i).number (text_of c.args.bytes.now (line_at lines i)) _ here.text (omega (arith, here.number)) c.lines.invariant.skipped c.in_err-sight.ensures in search rules

pub lines-preserved : goal.lines-preserved
lines-preserved c =
    let lines : List Line = c.args.lines.now in
    let i : ℕ = c.lines.line-index in
    let here = line_here c.args.bytes.now 1 lines i c.requires (omega arith) in
    record {
      count = omega (arith, c.lines.invariant.count);
      skipped = skip_more (map (text_of c.args.bytes.now) lines) i (text_of c.args.bytes.now (line_at lines i)) here.text (rw c.in-Blank.is at c.in_ok-sight.ensures) c.lines.invariant.skipped;
    }

pub returns : goal.returns
returns c = end_begins (map (text_of c.args.bytes.now) c.args.lines.now) c.lines.line-index c.lines.place (omega (arith, length-map c.args.lines.now (text_of c.args.bytes.now))) c.lines.invariant.count c.lines.invariant.skipped
