use Rattle.std.proofs.Common.{Bool, arith, sym, subst}
use Rattle.exchangeable_types.specs.Nesting.{IsNesting}
use Rattle.exchangeable_types.proofs.Walks.{held_within, field_within}
use Rattle.exchangeable_types.proofs.Nests.{going_number, going_begins, going_past, going_marks, going_ends}
use Rattle.exchangeable_types.proofs.nesting.scan.Goals as goal
use Rattle.exchangeable_types.proofs.nesting.scan.Goals.{in-Some-struct_held+in_ok-mark, in_default-struct_held}

pub start_of-at-requires : goal.start_of-at-requires
start_of-at-requires c = going_number c.args.part.now.lines.now c.args.passed.now.items c.args.waiting.now.items c.args.number c.requires.passing

pub fields-init : goal.fields-init
fields-init c = record {
  searching = c.requires.searching;
  going = going_begins c.args.part.now.lines.now c.args.passed.now.items c.args.waiting.now.items c.args.number c.start_of-at.result c.requires.passing c.start_of-at.ensures.start;
}

pub mark-requires : goal.mark-requires
mark-requires c =
    let lt = held_within c.args.part.now.lines.now c.in-Some.ty.now c.in-Some-struct_held.held (omega (arith, going_number c.args.part.now.lines.now c.args.passed.now.items c.args.waiting.now.items c.args.number c.requires.passing)) (sym c.in-Some-struct_held.ensures) in
    omega (arith, lt, c.fields.invariant.going.count)

pub overflow_add-at-in-Some : goal.overflow_add-at-in-Some
overflow_add-at-in-Some c =
    let lt = field_within c.args.part.now.lines.now c.fields.at c.in-Some.ty.now (sym c.in-Some.ensures) in
    omega (arith, lt, c.args.part.now.few)

pub fields-smaller : goal.fields-smaller
fields-smaller c =
    let lt = field_within c.args.part.now.lines.now c.fields.at c.in-Some.ty.now (sym c.in-Some.ensures) in
    omega (arith, lt)

pub fields-preserved : goal.fields-preserved
fields-preserved c =
    let answer = subst (λ (b : Bool). IsNesting c.args.part.now.lines.now c.in-Some.ty.now c.is_nesting.new.seen.items b) c.if-branch.false c.in_ok-is_nesting.ensures in
    elim c.match-struct_held.branch [
      | in-Some-struct_held+in_ok-mark w ↦
          let lt = held_within c.args.part.now.lines.now c.in-Some.ty.now w.in-Some-struct_held.held (omega (arith, going_number c.args.part.now.lines.now c.args.passed.now.items c.args.waiting.now.items c.args.number c.requires.passing)) (sym w.in-Some-struct_held.ensures) in
          rw (w.passed-is, w.waiting-is) (record {
            searching = answer.0;
            going = going_marks c.args.part.now.lines.now c.args.passed.now.items c.fields.passed.items w.mark.new.seen.items c.args.waiting.now.items c.fields.waiting.items w.mark.new.waiting.items c.args.number c.fields.at w.in-Some-struct_held.held c.in-Some.ty.now c.fields.invariant.going (sym c.in-Some.ensures) answer.1 (sym w.in-Some-struct_held.ensures) (omega (arith, lt, c.fields.invariant.going.count)) w.in_ok-mark.ensures;
          })
      | in_default-struct_held w ↦ rw (w.passed-is, w.waiting-is) (record {
        searching = answer.0;
        going = going_past c.args.part.now.lines.now c.args.passed.now.items c.fields.passed.items c.args.waiting.now.items c.fields.waiting.items c.args.number c.fields.at c.in-Some.ty.now c.fields.invariant.going (sym c.in-Some.ensures) answer.1 (sym w.in_default-struct_held.ensures);
      })
    ]

pub returns : goal.returns
returns c = (c.fields.invariant.searching, going_ends c.args.part.now.lines.now c.args.passed.now.items c.fields.passed.items c.args.waiting.now.items c.fields.waiting.items c.args.number c.fields.at c.fields.invariant.going (sym c.in_default.ensures))
