use Rattle.std.proofs.Common.{ℕ, List, map, sym, subst, arith, rules}
use Rattle.std.proofs.lemmas.List.{length-map}
use Rattle.rl_defs.specs.Refusals.{IsFirst}
use Rattle.rl_defs.specs.DomainParts.{FailsDomains}
use Rattle.rl_defs.proofs.FirstRefusal.{refuses}
use Rattle.rl_text.specs.declared.line.Line.{Line}
use Rattle.rl_text.specs.Places.{text_of, first_number}
use Rattle.rl_text.proofs.ListPlaces.{line_at, line_here}
use Rattle.domain_code.proofs.PartLaws.{nothing_read, one_read, one_refused, part_open, part_read}
use Rattle.domain_code.proofs.part.read_domains.Goals as goal

pub take_line-requires : goal.take_line-requires
take_line-requires c = (line_here _ _ c.args.lines.now c.lines.line-index c.requires.numbered (omega arith)).within

pub lines-init : goal.lines-init
lines-init c = record { count = omega (arith, c.first_number-number.ensures); so_far = rw c.new-domains.ensures.items (nothing_read _ _) }

pub returns-in_err-block : goal.returns-in_err-block
returns-in_err-block c =
    let lines : List Line = c.args.lines.now in
    let i : ℕ = c.lines.line-index in
    let line : Line = line_at lines i in
    let here = line_here c.args.bytes.now (first_number lines) lines i c.requires.numbered (omega arith) in
    let refused = one_refused (first_number lines) i line.number (map (text_of c.args.bytes.now) lines) (text_of c.args.bytes.now line) c.lines.block c.lines.domains.items c.take_line.new.domains.items _ here.text here.number c.lines.invariant.so_far c.in_err-block.ensures in search rules

pub lines-preserved : goal.lines-preserved
lines-preserved c =
    let lines : List Line = c.args.lines.now in
    let i : ℕ = c.lines.line-index in
    let line : Line = line_at lines i in
    let here = line_here c.args.bytes.now (first_number lines) lines i c.requires.numbered (omega arith) in
    record {
      count = omega (arith, c.lines.invariant.count);
      so_far = one_read (first_number lines) i line.number (map (text_of c.args.bytes.now) lines) (text_of c.args.bytes.now line) c.lines.block c.in_ok-block.block c.lines.domains.items c.take_line.new.domains.items here.text here.number c.lines.invariant.so_far c.in_ok-block.ensures;
    }

pub returns-in-Outside : goal.returns-in-Outside
returns-in-Outside c =
    let lines : List Line = c.args.lines.now in
    let i : ℕ = c.lines.line-index in
    let texts : List (List ℕ) = map (text_of c.args.bytes.now) lines in
    rw c.from_vec.ensures (part_read (first_number lines) i texts c.lines.block c.lines.domains.items (omega (arith, length-map lines (text_of c.args.bytes.now))) c.lines.invariant.so_far c.in-Outside.is)

pub returns : goal.returns
returns c =
    let lines : List Line = c.args.lines.now in
    let i : ℕ = c.lines.line-index in
    let texts : List (List ℕ) = map (text_of c.args.bytes.now) lines in
    let first = part_open (first_number lines) i texts c.lines.block c.lines.domains.items (omega (arith, length-map lines (text_of c.args.bytes.now))) c.lines.invariant.so_far c.in_default.not-Outside in
    refuses {X = Unit {0}} _ (λ _. Unit {0}) _ c.lines.number 2 c.refused.ensures (subst (λ (n : ℕ). IsFirst (FailsDomains (first_number lines) texts) n 2) (sym c.lines.invariant.count) first)
