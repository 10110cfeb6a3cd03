use Rattle.std.proofs.Common.{◌≡◌, ℕ, List, map, true, false, sym, subst, ◌∙◌, arith, rules}
use Rattle.std.proofs.lemmas.List.{length-map}
use Rattle.rl_defs.specs.Refusals.{IsFirst}
use Rattle.rl_defs.specs.Parts.{FailsPart}
use Rattle.rl_defs.proofs.FirstRefusal.{refuses}
use Rattle.rl_text.specs.declared.line.Line.{Line}
use Rattle.rl_text.specs.Places.{text_of, first_number}
use Rattle.rl_text.proofs.ListPlaces.{line_at, line_here}
use Rattle.rl_text.proofs.PartRules.{no_lines, next_line, refused_line, left_open, all_closed}
use Rattle.rl_text.proofs.PartRules.{forms_read}
use Rattle.rl_text.proofs.part.read_lines.Goals as goal

pub take_line-requires-clause-within : goal.take_line-requires-clause-within
take_line-requires-clause-within g c = (line_here _ _ c.args.lines.now c.lines.line-index c.requires.numbered (omega arith)).within

pub lines-init : goal.lines-init
lines-init g c = record { count = omega (arith, c.first_number-number.ensures); so_far = rw (c.new-forms.ensures, c.outside-block.ensures) (no_lines g.F.PartLine.grammar _ _) }

pub returns-in_err-block : goal.returns-in_err-block
returns-in_err-block g c =
    let lines : List Line = c.args.lines.now in
    let i : ℕ = c.lines.line-index in
    let line : Line = line_at lines i in
    let here = line_here c.args.bytes.now (first_number lines) lines i c.requires.numbered (omega arith) in
    let refused = refused_line g.F.PartLine.grammar g.F.PartLine.block_of (first_number lines) i line.number (map (text_of c.args.bytes.now) lines) (text_of c.args.bytes.now line) c.lines.block c.lines.forms c.take_line.new.forms _ here.text here.number c.lines.invariant.so_far c.in_err-block.ensures in search rules

pub lines-preserved : goal.lines-preserved
lines-preserved g c =
    let lines : List Line = c.args.lines.now in
    let i : ℕ = c.lines.line-index in
    let line : Line = line_at lines i in
    let here = line_here c.args.bytes.now (first_number lines) lines i c.requires.numbered (omega arith) in
    record {
      count = omega (arith, c.lines.invariant.count);
      so_far = next_line g.F.PartLine.grammar (forms_read g.F.PartLine.grammar (λ text ts. g.F.PartLine.line_at ts) c.requires.reading) g.F.PartLine.block_of (first_number lines) i line.number (map (text_of c.args.bytes.now) lines) (text_of c.args.bytes.now line) c.lines.block c.in_ok-block.block c.lines.forms c.take_line.new.forms here.text here.number c.lines.invariant.so_far c.in_ok-block.ensures;
    }

pub returns-then-is_outside : goal.returns-then-is_outside
returns-then-is_outside g c =
    let lines : List Line = c.args.lines.now in
    let i : ℕ = c.lines.line-index in
    all_closed g.F.PartLine.grammar (forms_read g.F.PartLine.grammar (λ text ts. g.F.PartLine.line_at ts) c.requires.reading) (first_number lines) i (map (text_of c.args.bytes.now) lines) c.lines.forms (g.F.PartLine.block_of c.lines.block) (omega (arith, length-map lines (text_of c.args.bytes.now))) c.lines.invariant.so_far (c.is_outside.ensures.0 c.if-is_outside.true)

pub returns : goal.returns
returns g c =
    let lines : List Line = c.args.lines.now in
    let i : ℕ = c.lines.line-index in
    let texts : List (List ℕ) = map (text_of c.args.bytes.now) lines in
    let first = left_open g.F.PartLine.grammar (first_number lines) i texts c.lines.forms (g.F.PartLine.block_of c.lines.block) (omega (arith, length-map lines (text_of c.args.bytes.now))) c.lines.invariant.so_far (λ e. false_true (sym c.if-is_outside.false ∙ c.is_outside.ensures.1 e)) in
    refuses {X = Unit {0}} _ (λ _. Unit {0}) _ c.lines.number 2 c.refused.ensures (subst (λ (n : ℕ). IsFirst (FailsPart g.F.PartLine.grammar (first_number lines) texts) n 2) (sym c.lines.invariant.count) first)
  where
    false_true : false ≡ true → ⊥
    false_true t = cc
