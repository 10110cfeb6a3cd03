use Rattle.std.proofs.Common.{◌≡◌, Some, List, ℕ, All, refl, sym, subst}
use Rattle.machine_defs.specs.declared.frame.Action.TheVariants as action
use Rattle.machine_defs.specs.declared.frame.Answer.TheVariants as answer
use Rattle.machine_defs.specs.Arguments.{objects_in}
use Rattle.machine_defs.specs.State.{StackFrame, stack, top}
use Rattle.proxies.specs.Objects.{IsLent, IsUnlent}
use Rattle.machine_steps.specs.Kept.{MayStep}
use Rattle.machine_steps.specs.Acting.{WouldAct}
use Rattle.machine_steps.specs.Replying.{MayBeTold}
use Rattle.machine_steps.proofs.Freeing.{room_for_freed}
use Rattle.machine_steps.proofs.Popping.{popped_client, may_be_told}
use Rattle.machine_steps.proofs.Returning.{ret_on_top, ret_thread, ret_well, ret_suits, ret_made, ret_lent, ret_place, ret_unlent, ret_owns, ret_frees, ret_goes}
use Rattle.machine_steps.proofs.machine.Machine.ret.Goals as goal

pub end_loans-requires : goal.end_loans-requires
end_loans-requires c =
    let may = subst (λ w. MayStep w c.args.t) (sym c.self.view_is) c.requires.may in
    let would = subst (λ w. WouldAct w c.args.t c.args.i (action.Ret c.args.results.now) c.args.stand.now) (sym c.self.view_is) c.requires.wants in
    let of_call = subst (λ w. (f : StackFrame) → top (stack w.state c.args.t) ≡ Some f → c.args.c ≡ f.call) (sym c.self.view_is) c.requires.call in
    subst (λ (os : List ℕ). All (IsLent c.self.inside.heap.rows os) os) (sym c.as_slice.ensures.value) (ret_lent c.laws.ensures c.self.invariant c.args.t c.args.i c.args.c c.args.stand.now c.args.results.now may would of_call c.pop-frame.result c.pop-frame.ensures.gives c.is_kept.ensures)

pub hand_back-requires-clause-unlent : goal.hand_back-requires-clause-unlent
hand_back-requires-clause-unlent c =
    let may = subst (λ w. MayStep w c.args.t) (sym c.self.view_is) c.requires.may in
    let would = subst (λ w. WouldAct w c.args.t c.args.i (action.Ret c.args.results.now) c.args.stand.now) (sym c.self.view_is) c.requires.wants in
    let of_call = subst (λ w. (f : StackFrame) → top (stack w.state c.args.t) ≡ Some f → c.args.c ≡ f.call) (sym c.self.view_is) c.requires.call in
    subst (λ values. All (IsUnlent c.end_loans.new.heap.rows) (objects_in values)) (sym c.as_slice-2.ensures.value)
    (ret_unlent c.laws.ensures c.self.invariant c.args.t c.args.i c.args.c c.args.stand.now c.args.results.now may would of_call c.pop-frame.result c.pop-frame.ensures.gives c.is_kept.ensures c.as_slice.result.now c.as_slice.ensures.value c.end_loans.ensures)

pub hand_back-requires-clause-owner : goal.hand_back-requires-clause-owner
hand_back-requires-clause-owner c =
    let may = subst (λ w. MayStep w c.args.t) (sym c.self.view_is) c.requires.may in
    let would = subst (λ w. WouldAct w c.args.t c.args.i (action.Ret c.args.results.now) c.args.stand.now) (sym c.self.view_is) c.requires.wants in
    let of_call = subst (λ w. (f : StackFrame) → top (stack w.state c.args.t) ≡ Some f → c.args.c ≡ f.call) (sym c.self.view_is) c.requires.call in
    ret_owns c.laws.ensures c.self.invariant c.args.t c.args.i c.args.c c.args.stand.now c.args.results.now may would of_call c.pop-frame.result c.pop-frame.ensures.gives c.is_kept.ensures c.as_slice.result.now c.as_slice.ensures.value c.end_loans.ensures c.pop-frame.new.self.frames c.pop-frame.ensures.frames c.actor-to.result c.actor-to.ensures

pub reply-requires-clause-a_client : goal.reply-requires-clause-a_client
reply-requires-clause-a_client c =
    let may = subst (λ w. MayStep w c.args.t) (sym c.self.view_is) c.requires.may in
    let would = subst (λ w. WouldAct w c.args.t c.args.i (action.Ret c.args.results.now) c.args.stand.now) (sym c.self.view_is) c.requires.wants in
    let of_call = subst (λ w. (f : StackFrame) → top (stack w.state c.args.t) ≡ Some f → c.args.c ≡ f.call) (sym c.self.view_is) c.requires.call in
    let thread = ret_thread c.laws.ensures c.self.invariant c.args.t c.args.i c.args.c c.args.stand.now c.args.results.now may would of_call c.pop-frame.result c.pop-frame.ensures.gives in
    popped_client c.self.invariant c.args.t thread.0 thread.1 c.pop-frame.new.self.frames c.pop-frame.ensures.frames

pub reply-requires-clause-a_frame : goal.reply-requires-clause-a_frame
reply-requires-clause-a_frame c =
    let may = subst (λ w. MayStep w c.args.t) (sym c.self.view_is) c.requires.may in
    let would = subst (λ w. WouldAct w c.args.t c.args.i (action.Ret c.args.results.now) c.args.stand.now) (sym c.self.view_is) c.requires.wants in
    let of_call = subst (λ w. (f : StackFrame) → top (stack w.state c.args.t) ≡ Some f → c.args.c ≡ f.call) (sym c.self.view_is) c.requires.call in
    let thread = ret_thread c.laws.ensures c.self.invariant c.args.t c.args.i c.args.c c.args.stand.now c.args.results.now may would of_call c.pop-frame.result c.pop-frame.ensures.gives in
    let well = ret_well c.laws.ensures c.self.invariant c.args.t c.args.i c.args.c c.args.stand.now c.args.results.now may would of_call c.pop-frame.result c.pop-frame.ensures.gives in
    subst (λ values. (f : StackFrame) → Rattle.trampolines.specs.Words.top (Rattle.trampolines.specs.Words.stack_of c.pop-frame.new.self.frames c.args.t) ≡ Some f → MayBeTold c.self.inside.load c.self.inside.instances (answer.Back values) f) (sym c.copied-2.ensures)
    (may_be_told c.self.invariant c.args.t thread.0 thread.1 c.pop-frame.new.self.frames c.pop-frame.ensures.frames c.pop-frame.result
    (ret_on_top c.laws.ensures c.self.invariant c.args.t c.args.i c.args.c c.args.stand.now c.args.results.now may would of_call c.pop-frame.result c.pop-frame.ensures.gives)
    (answer.Back c.args.results.now) tt well.method well.row
    (ret_suits c.laws.ensures c.self.invariant c.args.t c.args.i c.args.c c.args.stand.now c.args.results.now may would of_call c.pop-frame.result c.pop-frame.ensures.gives))

pub reply-requires-clause-a_place : goal.reply-requires-clause-a_place
reply-requires-clause-a_place c =
    let may = subst (λ w. MayStep w c.args.t) (sym c.self.view_is) c.requires.may in
    let would = subst (λ w. WouldAct w c.args.t c.args.i (action.Ret c.args.results.now) c.args.stand.now) (sym c.self.view_is) c.requires.wants in
    let of_call = subst (λ w. (f : StackFrame) → top (stack w.state c.args.t) ≡ Some f → c.args.c ≡ f.call) (sym c.self.view_is) c.requires.call in
    ret_place c.laws.ensures c.self.invariant c.args.t c.args.i c.args.c c.args.stand.now c.args.results.now may would of_call c.pop-frame.result c.pop-frame.ensures.gives c.set_fuel.new.self c.saturating_sub.result c.set_fuel.ensures

pub sweep-requires : goal.sweep-requires
sweep-requires c =
    let may = subst (λ w. MayStep w c.args.t) (sym c.self.view_is) c.requires.may in
    let would = subst (λ w. WouldAct w c.args.t c.args.i (action.Ret c.args.results.now) c.args.stand.now) (sym c.self.view_is) c.requires.wants in
    let of_call = subst (λ w. (f : StackFrame) → top (stack w.state c.args.t) ≡ Some f → c.args.c ≡ f.call) (sym c.self.view_is) c.requires.call in
    room_for_freed c.self.invariant c.args.t may
    (ret_made c.laws.ensures c.self.invariant c.args.t c.args.i c.args.c c.args.stand.now c.args.results.now may would of_call c.pop-frame.result c.pop-frame.ensures.gives) c.hand_back.new.heap.rows c.put.new.self.spare
    (ret_frees c.laws.ensures c.self.invariant c.args.t c.args.i c.args.c c.args.stand.now c.args.results.now may would of_call c.pop-frame.result c.pop-frame.ensures.gives c.is_kept.ensures c.as_slice.result.now c.as_slice.ensures.value c.end_loans.ensures c.pop-frame.new.self.frames c.pop-frame.ensures.frames c.actor-to.result c.actor-to.ensures c.as_slice-2.result.now c.as_slice-2.ensures.value c.is_over.result c.is_over.ensures c.is_kept-2.ensures c.hand_back.ensures)
    c.put.ensures.spare

pub invariant_of-self : goal.invariant_of-self
invariant_of-self c =
    let may = subst (λ w. MayStep w c.args.t) (sym c.self.view_is) c.requires.may in
    let would = subst (λ w. WouldAct w c.args.t c.args.i (action.Ret c.args.results.now) c.args.stand.now) (sym c.self.view_is) c.requires.wants in
    let of_call = subst (λ w. (f : StackFrame) → top (stack w.state c.args.t) ≡ Some f → c.args.c ≡ f.call) (sym c.self.view_is) c.requires.call in
    (ret_goes c.laws.ensures c.self.invariant c.args.t c.args.i c.args.c c.args.stand.now c.args.results.now may would of_call c.pop-frame.result c.pop-frame.ensures.gives c.is_kept.ensures c.as_slice.result.now c.as_slice.ensures.value c.end_loans.ensures c.pop-frame.new.self.frames c.pop-frame.ensures.frames c.actor-to.result c.actor-to.ensures c.as_slice-2.result.now c.as_slice-2.ensures.value c.is_over.result c.is_over.ensures c.is_kept-2.ensures c.hand_back.ensures
    c.saturating_sub.result c.copied-2.result c.copied.result c.copied-2.ensures c.copied.ensures c.put.ensures.entries c.put.ensures.spare refl c.pop-frame.ensures.instances
    c.saturating_sub.ensures c.set_fuel.ensures c.reply.ensures.frames c.reply.ensures.instances c.reply.ensures.threads c.sweep.ensures.rows c.sweep.ensures.log c.sweep.ensures.spare).kept

pub returns : goal.returns
returns c =
    let may = subst (λ w. MayStep w c.args.t) (sym c.self.view_is) c.requires.may in
    let would = subst (λ w. WouldAct w c.args.t c.args.i (action.Ret c.args.results.now) c.args.stand.now) (sym c.self.view_is) c.requires.wants in
    let of_call = subst (λ w. (f : StackFrame) → top (stack w.state c.args.t) ≡ Some f → c.args.c ≡ f.call) (sym c.self.view_is) c.requires.call in
    rw (← c.self.view_is) (ret_goes c.laws.ensures c.self.invariant c.args.t c.args.i c.args.c c.args.stand.now c.args.results.now may would of_call c.pop-frame.result c.pop-frame.ensures.gives c.is_kept.ensures c.as_slice.result.now c.as_slice.ensures.value c.end_loans.ensures c.pop-frame.new.self.frames c.pop-frame.ensures.frames c.actor-to.result c.actor-to.ensures c.as_slice-2.result.now c.as_slice-2.ensures.value c.is_over.result c.is_over.ensures c.is_kept-2.ensures c.hand_back.ensures
    c.saturating_sub.result c.copied-2.result c.copied.result c.copied-2.ensures c.copied.ensures c.put.ensures.entries c.put.ensures.spare refl c.pop-frame.ensures.instances
    c.saturating_sub.ensures c.set_fuel.ensures c.reply.ensures.frames c.reply.ensures.instances c.reply.ensures.threads c.sweep.ensures.rows c.sweep.ensures.log c.sweep.ensures.spare).went
