use Rattle.std.proofs.Common.{ℕ, ◌≤◌, List, length, map, arith}
use Rattle.std.proofs.lemmas.List.{length-map}
use Rattle.rl_defs.specs.declared.bundle.Bundle.{Bundle}
use Rattle.rl_defs.specs.Lines.{lines_of}
use Rattle.rl_defs.specs.BundleParts.{IsBundle}
use Rattle.rl_text.specs.declared.line.Line.{Line}
use Rattle.rl_text.specs.Places.{text_of}
use Rattle.rl_text.proofs.ListPlaces.{line_at, line_here}
use Rattle.bundle_parts.specs.declared.cut.At.{At}
use Rattle.bundle_parts.proofs.Whole.{left_answers, left_inside, at_end, all_answers, bundle_ordered}
use Rattle.bundle_parts.proofs.read.read_bundle.Goals as goal

pub returns-in-Some-clause-reads : goal.returns-in-Some-clause-reads
returns-in-Some-clause-reads c =
    let lines : List Line = c.args.lines.now in
    let texts : List (List ℕ) = map (text_of c.args.bytes.now) lines in
    let at : At = c.take_clients.new.at in
    let reached = c.in_ok-clients.ensures.0 in
    let here = line_here c.args.bytes.now 1 lines at.place c.requires.numbered (omega (arith, left_inside texts at c.in-Some.field-0 c.in-Some.is reached, length-map lines (text_of c.args.bytes.now))) in
    left_answers {Y = Bundle} texts (lines_of c.args.bytes.now) (IsBundle (lines_of c.args.bytes.now)) (line_at lines at.place).number at c.in-Some.field-0 _ c.refused.ensures (omega (arith, here.number)) c.in-Some.is c.requires.texts reached

pub returns-clause-reads : goal.returns-clause-reads
returns-clause-reads c =
    let texts : List (List ℕ) = map (text_of c.args.bytes.now) c.args.lines.now in
    let last : At = c.take_clients.new.at in
    all_answers texts _ _ _ _ _ _ last.place (at_end texts last c.in-None.is c.in_ok-clients.ensures.0) c.requires.texts (record { idl = c.in_ok-idl.ensures.1; domains = c.in_ok-domains.ensures.1; plan = c.in_ok-plan.ensures.1; clients = c.in_ok-clients.ensures.1 })

pub returns-clause-ordered : goal.returns-clause-ordered
returns-clause-ordered c =
    let texts : List (List ℕ) = map (text_of c.args.bytes.now) c.args.lines.now in
    let last : At = c.take_clients.new.at in
    let few : length texts ≤ 1048576 = omega (arith, c.requires.few, length-map c.args.lines.now (text_of c.args.bytes.now)) in
    bundle_ordered texts _ _ _ _ _ last.place (at_end texts last c.in-None.is c.in_ok-clients.ensures.0) few (record { idl = c.in_ok-idl.ensures.1; domains = c.in_ok-domains.ensures.1; plan = c.in_ok-plan.ensures.1; clients = c.in_ok-clients.ensures.1 })
