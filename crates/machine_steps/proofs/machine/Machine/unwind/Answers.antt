use Rattle.std.proofs.Common.{List, ℕ, All, sym, subst}
use Rattle.proxies.specs.Objects.{IsLent}
use Rattle.machine_steps.specs.Kept.{MayStep}
use Rattle.machine_steps.specs.Returning.{MayUnwind}
use Rattle.machine_steps.proofs.Freeing.{room_for_freed}
use Rattle.machine_steps.proofs.Popping.{popped_client, calling_place, may_be_told}
use Rattle.machine_steps.proofs.Unwinding.{unwound_thread, unwound_call, unwound_on_top, unwound, unwound_made, unwound_lent, unwound_frees, unwound_goes}
use Rattle.machine_steps.proofs.machine.Machine.unwind.Goals as goal

pub end_loans-requires : goal.end_loans-requires
end_loans-requires c =
    subst (λ (os : List ℕ). All (IsLent c.self.inside.heap.rows os) os) (sym c.as_slice.ensures.value)
    (unwound_lent c.laws.ensures c.self.invariant c.args.t c.args.c (subst (λ w. MayStep w c.args.t) (sym c.self.view_is) c.requires.may)
    (subst (λ w. MayUnwind w c.args.t c.args.c) (sym c.self.view_is) c.requires.over) c.pop-frame.result c.pop-frame.ensures.gives c.is_kept.ensures)

pub reply-requires-clause-a_client : goal.reply-requires-clause-a_client
reply-requires-clause-a_client c =
    let may = subst (λ w. MayStep w c.args.t) (sym c.self.view_is) c.requires.may in
    let can = subst (λ w. MayUnwind w c.args.t c.args.c) (sym c.self.view_is) c.requires.over in
    let thread = unwound_thread c.laws.ensures c.self.invariant c.args.t c.args.c may can c.pop-frame.result c.pop-frame.ensures.gives in
    popped_client c.self.invariant c.args.t thread.0 thread.1 c.pop-frame.new.self.frames c.pop-frame.ensures.frames

pub reply-requires-clause-a_frame : goal.reply-requires-clause-a_frame
reply-requires-clause-a_frame c =
    let may = subst (λ w. MayStep w c.args.t) (sym c.self.view_is) c.requires.may in
    let can = subst (λ w. MayUnwind w c.args.t c.args.c) (sym c.self.view_is) c.requires.over in
    let thread = unwound_thread c.laws.ensures c.self.invariant c.args.t c.args.c may can c.pop-frame.result c.pop-frame.ensures.gives in
    let call = unwound_call c.laws.ensures c.self.invariant c.args.t c.args.c may can c.pop-frame.result c.pop-frame.ensures.gives in
    may_be_told c.self.invariant c.args.t thread.0 thread.1 c.pop-frame.new.self.frames c.pop-frame.ensures.frames c.pop-frame.result
    (unwound_on_top c.laws.ensures c.self.invariant c.args.t c.args.c may can c.pop-frame.result c.pop-frame.ensures.gives) unwound tt call.method call.row tt

pub reply-requires-clause-a_place : goal.reply-requires-clause-a_place
reply-requires-clause-a_place c =
    let may = subst (λ w. MayStep w c.args.t) (sym c.self.view_is) c.requires.may in
    let can = subst (λ w. MayUnwind w c.args.t c.args.c) (sym c.self.view_is) c.requires.over in
    let thread = unwound_thread c.laws.ensures c.self.invariant c.args.t c.args.c may can c.pop-frame.result c.pop-frame.ensures.gives in
    calling_place c.self.invariant c.args.t thread.0 thread.1 c.pop-frame.result
    (unwound_on_top c.laws.ensures c.self.invariant c.args.t c.args.c may can c.pop-frame.result c.pop-frame.ensures.gives)

pub sweep-requires : goal.sweep-requires
sweep-requires c =
    let may = subst (λ w. MayStep w c.args.t) (sym c.self.view_is) c.requires.may in
    let can = subst (λ w. MayUnwind w c.args.t c.args.c) (sym c.self.view_is) c.requires.over in
    room_for_freed c.self.invariant c.args.t may (unwound_made c.laws.ensures c.self.invariant c.args.t c.args.c may can c.pop-frame.result c.pop-frame.ensures.gives) c.end_loans.new.heap.rows c.put.new.self.spare
    (unwound_frees c.laws.ensures c.self.invariant c.args.t c.args.c may can c.pop-frame.result c.pop-frame.ensures.gives c.is_kept.ensures c.is_kept-2.ensures c.as_slice.result.now c.as_slice.ensures.value c.end_loans.ensures)
    c.put.ensures.spare

pub invariant_of-self : goal.invariant_of-self
invariant_of-self c =
    (unwound_goes c.laws.ensures c.self.invariant c.args.t c.args.c (subst (λ w. MayStep w c.args.t) (sym c.self.view_is) c.requires.may)
    (subst (λ w. MayUnwind w c.args.t c.args.c) (sym c.self.view_is) c.requires.over) c.pop-frame.result c.pop-frame.ensures.gives
    c.is_kept.ensures c.is_kept-2.ensures c.as_slice.result.now c.as_slice.ensures.value c.end_loans.ensures
    c.put.ensures.entries c.put.ensures.spare c.pop-frame.ensures.frames c.pop-frame.ensures.instances
    c.reply.ensures.frames c.reply.ensures.instances c.reply.ensures.threads c.sweep.ensures.rows c.sweep.ensures.log c.sweep.ensures.spare).kept

pub returns : goal.returns
returns c = rw (← c.self.view_is)
    (unwound_goes c.laws.ensures c.self.invariant c.args.t c.args.c (subst (λ w. MayStep w c.args.t) (sym c.self.view_is) c.requires.may)
    (subst (λ w. MayUnwind w c.args.t c.args.c) (sym c.self.view_is) c.requires.over) c.pop-frame.result c.pop-frame.ensures.gives
    c.is_kept.ensures c.is_kept-2.ensures c.as_slice.result.now c.as_slice.ensures.value c.end_loans.ensures
    c.put.ensures.entries c.put.ensures.spare c.pop-frame.ensures.frames c.pop-frame.ensures.instances
    c.reply.ensures.frames c.reply.ensures.instances c.reply.ensures.threads c.sweep.ensures.rows c.sweep.ensures.log c.sweep.ensures.spare).went
