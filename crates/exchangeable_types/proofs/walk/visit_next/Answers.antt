use Rattle.std.proofs.Common.{◌<◌, length, arith, sym, ap, ◌∙◌, Some, List, get_or}
use Rattle.exchangeable_types.specs.declared.walk.State.{State}
use Rattle.exchangeable_types.proofs.Walks.{read_state}
use Rattle.exchangeable_types.proofs.Stack.{walked_more, walked_old, is_new_true, ok_then}
use Rattle.exchangeable_types.proofs.walk.visit_next.Goals as goal

pub bounds-as_slice-number : goal.bounds-as_slice-number
bounds-as_slice-number c = omega (arith, c.requires.below, c.requires.walked.walking.count, ap length c.as_slice.ensures.value)

pub visit_from-requires-clause-new : goal.visit_from-requires-clause-new
visit_from-requires-clause-new c =
    let lt : c.args.number < length c.args.states.now.items = omega (arith, c.requires.below, c.requires.walked.walking.count) in
    let read = read_state c.args.states.now.items c.args.number c.index-as_slice-number.result lt (c.index-as_slice-number.is ∙ ap (λ (xs : List State). get_or xs c.args.number c.index-as_slice-number.result) c.as_slice.ensures.value) in
    read ∙ ap (λ (x : State). Some x) (is_new_true c.index-as_slice-number.result (sym c.is_new.ensures ∙ c.if-is_new.true))

pub returns-then-is_new : goal.returns-then-is_new
returns-then-is_new c = ok_then c.visit_from.result _ _ c.visit_from.ensures (λ v. walked_more c.args.part.now.lines.now c.args.states.now.items c.visit_from.new.states.items c.args.number c.requires.walked v)

pub returns-else-is_new : goal.returns-else-is_new
returns-else-is_new c =
    let lt : c.args.number < length c.args.states.now.items = omega (arith, c.requires.below, c.requires.walked.walking.count) in
    let read = read_state c.args.states.now.items c.args.number c.index-as_slice-number.result lt (c.index-as_slice-number.is ∙ ap (λ (xs : List State). get_or xs c.args.number c.index-as_slice-number.result) c.as_slice.ensures.value) in
    walked_old c.args.part.now.lines.now c.args.states.now.items c.args.number c.index-as_slice-number.result c.requires.walked read (sym c.is_new.ensures ∙ c.if-is_new.false)
