use Rattle.std.proofs.Common.{map, refl, sym, ◌∙◌, arith}
use Rattle.rl_text.specs.Places.{text_of}
use Rattle.bundle_parts.proofs.PartCuts.{inside_lines, next_inside, cuts_there, cuts_absent}
use Rattle.bundle_parts.proofs.cut.part.Goals as goal

pub returns-then-not-is_of : goal.returns-then-not-is_of
returns-then-not-is_of c = cuts_absent c.args.lines.now (map (text_of c.args.bytes.now) c.args.lines.now) c.args.header c.args.at.now _ (sym c.is_of.ensures ∙ c.if-not-is_of.true) c.requires.stands refl

pub overflow_add-first : goal.overflow_add-first
overflow_add-first c = omega (arith, inside_lines c.args.bytes.now c.args.lines.now c.args.at.now c.args.header (sym c.is_of.ensures ∙ c.if-not-is_of.false) c.requires.stands, c.requires.few)

pub next_header-requires-clause-inside : goal.next_header-requires-clause-inside
next_header-requires-clause-inside c = omega (arith, inside_lines c.args.bytes.now c.args.lines.now c.args.at.now c.args.header (sym c.is_of.ensures ∙ c.if-not-is_of.false) c.requires.stands)

pub between-requires : goal.between-requires
between-requires c = record {
  ordered = c.in_ok-next.ensures.behind;
  inside = next_inside c.args.bytes.now c.args.lines.now _ c.in_ok-next.next c.in_ok-next.ensures;
}

pub returns : goal.returns
returns c = cuts_there c.args.lines.now (map (text_of c.args.bytes.now) c.args.lines.now) c.args.header c.args.at.now c.in_ok-next.next _ _ refl (sym c.is_of.ensures ∙ c.if-not-is_of.false) c.requires.stands c.in_ok-next.ensures c.between.ensures
