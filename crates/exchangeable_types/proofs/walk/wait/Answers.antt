use Rattle.std.proofs.Common.{◌≡◌, List, [], ◌∷◌, ◌++◌, Some, sym, subst, ◌∙◌, ap}
use Rattle.std.specs.Prelude.{slice_get}
use Rattle.exchangeable_types.specs.declared.walk.State.{State}
use Rattle.exchangeable_types.specs.declared.walk.Visit.{Visit}
use Rattle.exchangeable_types.specs.Walk.{Stepped}
use Rattle.exchangeable_types.proofs.Walks.{read_state}
use Rattle.exchangeable_types.proofs.Stack.{top_within, stepped_endless, stepped_in, leads_on, is_new_true, ok_then}
use Rattle.exchangeable_types.proofs.walk.wait.Goals as goal

pub set-requires : goal.set-requires
set-requires c = top_within c.args.part.now.lines.now c.args.states.now.items c.args.stack.now.items c.args.visit c.requires.walking

pub returns : goal.returns
returns c =
    let read = read_state c.args.states.now.items c.args.held c.index.result.now c.requires.waits.there c.index.ensures in
    stepped_endless c.args.part.now.lines.now c.args.states.now.items c.set.new.states.items c.args.stack.now.items c.args.visit c.args.held c.index.result.now c.requires.walking c.requires.waits read (sym c.is_new.ensures ∙ c.if-is_new.false) c.set.ensures

pub begin-inner-requires-clause-new : goal.begin-inner-requires-clause-new
begin-inner-requires-clause-new c =
    let read = read_state c.args.states.now.items c.args.held c.index.result.now c.requires.waits.there c.index.ensures in
    read ∙ ap (λ (x : State). Some x) (is_new_true c.index.result.now (sym c.is_new.ensures ∙ c.if-is_new.true))

pub begin-inner-requires-clause-below : goal.begin-inner-requires-clause-below
begin-inner-requires-clause-below c = λ i v e.
    leads_on c.args.part.now.lines.now c.args.states.now.items c.args.stack.now.items c.args.visit c.args.held c.requires.walking c.requires.waits.field i v (subst (λ (vs : List Visit). slice_get vs i ≡ Some v) (c.as_slice.ensures.value ∙ c.in_ok-push.ensures) e)

pub returns-then-is_new : goal.returns-then-is_new
returns-then-is_new c =
    let read = read_state c.args.states.now.items c.args.held c.index.result.now c.requires.waits.there c.index.ensures in
    let new = read ∙ ap (λ (x : State). Some x) (is_new_true c.index.result.now (sym c.is_new.ensures ∙ c.if-is_new.true)) in
    ok_then c.push-then-is_new.result _ _ c.push-then-is_new.ensures (λ e. subst (λ (vs : List Visit). Stepped c.args.part.now.lines.now c.args.states.now.items c.begin-inner.new.states.items c.args.stack.now.items vs) (sym (e ∙ ap (λ (vs : List Visit). vs ++ c.begin-inner.result ∷ []) (sym c.as_slice.ensures.value))) (stepped_in c.args.part.now.lines.now c.args.states.now.items c.begin-inner.new.states.items c.args.stack.now.items c.as_slice.result.now (c.as_slice.result.now ++ c.begin-inner.result ∷ []) c.args.visit c.args.held new (c.as_slice.ensures.value ∙ c.in_ok-push.ensures) c.begin-inner.ensures))
