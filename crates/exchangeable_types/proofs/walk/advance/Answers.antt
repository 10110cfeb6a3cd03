use Rattle.std.proofs.Common.{refl, sym, subst, arith}
use Rattle.exchangeable_types.specs.declared.cells.Cells.{Cells}
use Rattle.exchangeable_types.specs.declared.walk.Added.{Added}
use Rattle.exchangeable_types.specs.Walk.{IsVisit}
use Rattle.exchangeable_types.specs.Steps.{IsAdded}
use Rattle.exchangeable_types.proofs.Walks.{held_within, visit_more, visit_whole, visit_waits, field_within}
use Rattle.exchangeable_types.proofs.walk.advance.Goals as goal

pub add-requires-clause-declared : goal.add-requires-clause-declared
add-requires-clause-declared c = λ t e.
    let lt = held_within c.args.part.now.lines.now c.in-Some.ty.now t (omega (arith, c.requires.below, c.requires.count)) e in
    omega (arith, lt, c.requires.count)

pub returns-in-Waits : goal.returns-in-Waits
returns-in-Waits c =
    let added = subst (λ (x : Added). IsAdded c.args.part.now.lines.now c.args.states.now c.fields.cells c.in-Some.ty.now x) c.in-Waits.is c.in_ok-more.ensures in (
      refl,
      (
        subst (λ (x : Cells). IsVisit c.args.part.now.lines.now (record { number = c.args.visit.number; at = c.fields.at; cells = x })) (sym added.0) c.fields.invariant.visit,
        visit_waits c.args.part.now.lines.now c.args.states.now c.args.visit.number c.fields.at c.fields.cells c.in-Some.ty.now c.in-Waits.held c.fields.invariant.visit (omega (arith, c.requires.below, c.requires.count)) c.requires.count (sym c.in-Some.ensures) added.1,
      ),
    )

pub overflow_add-at : goal.overflow_add-at
overflow_add-at c =
    let lt = field_within c.args.part.now.lines.now c.fields.at c.in-Some.ty.now (sym c.in-Some.ensures) in
    omega (arith, lt, c.args.part.now.few)

pub fields-smaller : goal.fields-smaller
fields-smaller c =
    let lt = field_within c.args.part.now.lines.now c.fields.at c.in-Some.ty.now (sym c.in-Some.ensures) in
    omega (arith, lt)

pub fields-preserved : goal.fields-preserved
fields-preserved c =
    let added = subst (λ (x : Added). IsAdded c.args.part.now.lines.now c.args.states.now c.fields.cells c.in-Some.ty.now x) c.in-Cells.is c.in_ok-more.ensures in record {
      visit = visit_more c.args.part.now.lines.now c.args.visit.number c.fields.at c.fields.cells c.in-Cells.more c.in-Some.ty.now c.fields.invariant.visit (sym c.in-Some.ensures) added;
      number = refl;
    }

pub returns : goal.returns
returns c = (refl, visit_whole c.args.part.now.lines.now c.args.visit.number c.fields.at c.fields.cells c.fields.invariant.visit (sym c.in_default.ensures))
