use Rattle.std.proofs.Common.{arith, sym, ◌∙◌}
use Rattle.exchangeable_types.proofs.Walks.{held_within, field_within}
use Rattle.exchangeable_types.proofs.Searches.{scan_number, scan_begins, scan_found, scan_passes, scan_marks, scan_ends}
use Rattle.exchangeable_types.proofs.search.scan.Goals as goal
use Rattle.exchangeable_types.proofs.search.scan.Goals.{in-Some-struct_held+in_ok-mark, in_default-struct_held}

pub start_of-at-requires : goal.start_of-at-requires
start_of-at-requires c = scan_number c.args.part.now.lines.now c.args.seen.now.items c.args.waiting.now.items c.args.number c.requires

pub fields-init : goal.fields-init
fields-init c = scan_begins c.args.part.now.lines.now c.args.seen.now.items c.args.waiting.now.items c.args.number c.start_of-at.result c.requires c.start_of-at.ensures.start

pub returns-then-holds_rref : goal.returns-then-holds_rref
returns-then-holds_rref c = scan_found c.args.part.now.lines.now c.args.seen.now.items c.fields.seen.items c.args.waiting.now.items c.fields.waiting.items c.args.number c.fields.at c.in-Some.ty.now c.fields.invariant (sym c.in-Some.ensures) (sym c.holds_rref.ensures ∙ c.if-holds_rref.true)

pub mark-requires : goal.mark-requires
mark-requires c =
    let lt = held_within c.args.part.now.lines.now c.in-Some.ty.now c.in-Some-struct_held.held (omega (arith, scan_number c.args.part.now.lines.now c.args.seen.now.items c.args.waiting.now.items c.args.number c.requires)) (sym c.in-Some-struct_held.ensures) in
    omega (arith, lt, c.fields.invariant.count)

pub overflow_add-at-in-Some : goal.overflow_add-at-in-Some
overflow_add-at-in-Some c =
    let lt = field_within c.args.part.now.lines.now c.fields.at c.in-Some.ty.now (sym c.in-Some.ensures) in
    omega (arith, lt, c.args.part.now.few)

pub fields-smaller : goal.fields-smaller
fields-smaller c =
    let lt = field_within c.args.part.now.lines.now c.fields.at c.in-Some.ty.now (sym c.in-Some.ensures) in
    omega (arith, lt)

pub fields-preserved : goal.fields-preserved
fields-preserved c = elim c.match-struct_held.branch [
  | in-Some-struct_held+in_ok-mark w ↦
      let lt = held_within c.args.part.now.lines.now c.in-Some.ty.now w.in-Some-struct_held.held (omega (arith, scan_number c.args.part.now.lines.now c.args.seen.now.items c.args.waiting.now.items c.args.number c.requires)) (sym w.in-Some-struct_held.ensures) in
      rw (w.seen-is, w.waiting-is) (scan_marks c.args.part.now.lines.now c.args.seen.now.items c.fields.seen.items w.mark.new.seen.items c.args.waiting.now.items c.fields.waiting.items w.mark.new.waiting.items c.args.number c.fields.at w.in-Some-struct_held.held c.in-Some.ty.now c.fields.invariant (sym c.in-Some.ensures) (sym c.holds_rref.ensures ∙ c.if-holds_rref.false) (sym w.in-Some-struct_held.ensures) (omega (arith, lt, c.fields.invariant.count)) w.in_ok-mark.ensures)
  | in_default-struct_held w ↦ rw (w.seen-is, w.waiting-is) (scan_passes c.args.part.now.lines.now c.args.seen.now.items c.fields.seen.items c.args.waiting.now.items c.fields.waiting.items c.args.number c.fields.at c.in-Some.ty.now c.fields.invariant (sym c.in-Some.ensures) (sym c.holds_rref.ensures ∙ c.if-holds_rref.false) (sym w.in_default-struct_held.ensures))
]

pub returns : goal.returns
returns c = scan_ends c.args.part.now.lines.now c.args.seen.now.items c.fields.seen.items c.args.waiting.now.items c.fields.waiting.items c.args.number c.fields.at c.fields.invariant (sym c.in_default.ensures)
