use Rattle.std.proofs.Common.{ℕ, ◌≤◌, ◌-◌, List, length, Some, refl, sym, ap, ◌∙◌, arith}
use Rattle.std.proofs.lemmas.Option.{slice_get_read}
use Rattle.refusal_notes.proofs.Shown.{within, line_there, no_line_there, beyond, line_of_number}
use Rattle.refusal_notes.proofs.note.line_at.Goals as goal

pub text-requires : goal.text-requires
text-requires c =
    let lookup = c.in-Some.ensures.lookup in
    let there = slice_get_read c.args.lines.now (length c.args.lines.now) (c.args.number - 1) c.in-Some.line.now refl lookup.3.0 lookup.1 in
    within c.args.bytes.now 1 (c.args.number - 1) c.args.lines.now c.in-Some.line.now c.requires.numbered there

pub returns-in-Some : goal.returns-in-Some
returns-in-Some c =
    let lookup = c.in-Some.ensures.lookup in
    let there = slice_get_read c.args.lines.now (length c.args.lines.now) (c.args.number - 1) c.in-Some.line.now refl lookup.3.0 lookup.1 in
    let line = line_there c.args.bytes.now c.args.lines.now (c.args.number - 1) c.in-Some.line.now c.requires.texts there in
    let counted : 1 ≤ c.args.number = omega (arith, c.if-number-eq0.false) in
    ap (λ (t : List ℕ). Some t) c.text.ensures ∙ (sym line ∙ sym (line_of_number c.args.bytes.now c.args.number counted))

pub returns-in-None : goal.returns-in-None
returns-in-None c =
    let lookup = c.in-None.ensures.lookup in
    let short : length c.args.lines.now ≤ c.args.number - 1 = omega (arith, lookup.3) in
    let none = no_line_there c.args.bytes.now c.args.lines.now (c.args.number - 1) c.requires.texts (beyond c.args.lines.now (c.args.number - 1) short) in
    let counted : 1 ≤ c.args.number = omega (arith, c.if-number-eq0.false) in
    sym (line_of_number c.args.bytes.now c.args.number counted ∙ none)
