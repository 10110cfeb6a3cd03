use Rattle.std.proofs.Common.{◌<◌, ◌≤◌, ◌++◌, ◌∷◌, [], refl, sym, ap, subst, ◌∙◌}
use Rattle.machine_defs.specs.declared.entry.Entry.TheVariants as entry
use Rattle.machine_defs.specs.declared.frame.Action.TheVariants as action
use Rattle.rl_defs.specs.Rows.{row}
use Rattle.machine_defs.specs.Seen.{change_row}
use Rattle.machine_defs.specs.Calling.{with_fuel}
use Rattle.machine_steps.specs.Kept.{MayStep}
use Rattle.machine_steps.specs.Acting.{WouldAct}
use Rattle.machine_steps.specs.Calls.{MayEnter}
use Rattle.machine_steps.proofs.CallingSteps.{call_target, call_enters, call_gives, call_owner, call_counted}
use Rattle.machine_steps.proofs.FrameEntering.{call_acts, frame_wants, frame_client, frame_room, frame_goes}
use Rattle.machine_steps.proofs.machine.Machine.frame_enters.Goals as goal

pub frame_at_entry-frame-requires-clause-target : goal.frame_at_entry-frame-requires-clause-target
frame_at_entry-frame-requires-clause-target c =
    call_target c.self.invariant c.args.t c.args.x c.args.m c.args.i c.args.args.now _ (subst (λ w. MayStep w c.args.t) (sym c.self.view_is) c.requires.may) (frame_wants c.self.invariant c.args.t c.args.j c.args.x c.args.m c.args.args.now c.args.stand.now (subst (λ w. WouldAct w c.args.t c.args.j (action.Call c.args.x c.args.m c.args.args.now) c.args.stand.now) (sym c.self.view_is) c.requires.wants)) (subst (λ w. MayEnter w c.args.t c.args.x c.args.i) (sym c.self.view_is) c.requires.enters)

pub frame_at_entry-frame-requires-clause-enters : goal.frame_at_entry-frame-requires-clause-enters
frame_at_entry-frame-requires-clause-enters c =
    call_enters c.self.invariant c.args.t c.args.x c.args.m c.args.i c.args.args.now _ (subst (λ w. MayStep w c.args.t) (sym c.self.view_is) c.requires.may) (frame_wants c.self.invariant c.args.t c.args.j c.args.x c.args.m c.args.args.now c.args.stand.now (subst (λ w. WouldAct w c.args.t c.args.j (action.Call c.args.x c.args.m c.args.args.now) c.args.stand.now) (sym c.self.view_is) c.requires.wants)) (subst (λ w. MayEnter w c.args.t c.args.x c.args.i) (sym c.self.view_is) c.requires.enters)

pub wait-requires-clause-a_client : goal.wait-requires-clause-a_client
wait-requires-clause-a_client c =
    (call_acts c.self.invariant c.args.t c.args.j c.args.x c.args.m c.args.args.now c.args.stand.now (subst (λ w. WouldAct w c.args.t c.args.j (action.Call c.args.x c.args.m c.args.args.now) c.args.stand.now) (sym c.self.view_is) c.requires.wants)).on.client

pub wait-requires-clause-code : goal.wait-requires-clause-code
wait-requires-clause-code c =
    (call_acts c.self.invariant c.args.t c.args.j c.args.x c.args.m c.args.args.now c.args.stand.now (subst (λ w. WouldAct w c.args.t c.args.j (action.Call c.args.x c.args.m c.args.args.now) c.args.stand.now) (sym c.self.view_is) c.requires.wants)).code

pub enter-requires-clause-gives : goal.enter-requires-clause-gives
enter-requires-clause-gives c =
    call_gives c.self.invariant c.args.t c.args.x c.args.m c.args.i c.args.args.now _ (subst (λ w. MayStep w c.args.t) (sym c.self.view_is) c.requires.may) (frame_wants c.self.invariant c.args.t c.args.j c.args.x c.args.m c.args.args.now c.args.stand.now (subst (λ w. WouldAct w c.args.t c.args.j (action.Call c.args.x c.args.m c.args.args.now) c.args.stand.now) (sym c.self.view_is) c.requires.wants)) (subst (λ w. MayEnter w c.args.t c.args.x c.args.i) (sym c.self.view_is) c.requires.enters) c.laws.ensures c.is_kept.ensures c.frame_at_entry-frame.result c.frame_at_entry-frame.ensures

pub enter-requires-clause-owner : goal.enter-requires-clause-owner
enter-requires-clause-owner c =
    call_owner c.self.invariant c.args.t c.args.x c.args.m c.args.i c.args.args.now _ (subst (λ w. MayStep w c.args.t) (sym c.self.view_is) c.requires.may) (frame_wants c.self.invariant c.args.t c.args.j c.args.x c.args.m c.args.args.now c.args.stand.now (subst (λ w. WouldAct w c.args.t c.args.j (action.Call c.args.x c.args.m c.args.args.now) c.args.stand.now) (sym c.self.view_is) c.requires.wants)) (subst (λ w. MayEnter w c.args.t c.args.x c.args.i) (sym c.self.view_is) c.requires.enters) c.frame_at_entry-frame.result c.frame_at_entry-frame.ensures

pub enter-requires-clause-a_client : goal.enter-requires-clause-a_client
enter-requires-clause-a_client c =
    frame_client c.self.invariant c.args.t c.args.j c.args.x c.args.m c.args.args.now c.args.stand.now (subst (λ w. WouldAct w c.args.t c.args.j (action.Call c.args.x c.args.m c.args.args.now) c.args.stand.now) (sym c.self.view_is) c.requires.wants) c.wait.new.stacks.frames c.wait.ensures.frames

pub enter-requires-clause-room : goal.enter-requires-clause-room
enter-requires-clause-room c =
    frame_room c.self.invariant c.args.t c.args.j c.args.x c.args.m c.args.args.now c.args.stand.now (subst (λ w. WouldAct w c.args.t c.args.j (action.Call c.args.x c.args.m c.args.args.now) c.args.stand.now) (sym c.self.view_is) c.requires.wants) c.args.i (subst (λ w. MayStep w c.args.t) (sym c.self.view_is) c.requires.may) (subst (λ w. MayEnter w c.args.t c.args.x c.args.i) (sym c.self.view_is) c.requires.enters) c.wait.new.stacks.frames c.wait.ensures.frames

pub enter-requires-clause-counted : goal.enter-requires-clause-counted
enter-requires-clause-counted c =
    subst (λ n. (0 < c.frame_at_entry-frame.result.instance) × (c.frame_at_entry-frame.result.instance ≤ n)) (sym c.wait.ensures.instances)
    (call_counted c.self.invariant c.args.t c.args.x c.args.m c.args.i c.args.args.now _ (subst (λ w. MayStep w c.args.t) (sym c.self.view_is) c.requires.may) (frame_wants c.self.invariant c.args.t c.args.j c.args.x c.args.m c.args.args.now c.args.stand.now (subst (λ w. WouldAct w c.args.t c.args.j (action.Call c.args.x c.args.m c.args.args.now) c.args.stand.now) (sym c.self.view_is) c.requires.wants)) (subst (λ w. MayEnter w c.args.t c.args.x c.args.i) (sym c.self.view_is) c.requires.enters) c.frame_at_entry-frame.result c.frame_at_entry-frame.ensures)

pub invariant_of-self : goal.invariant_of-self
invariant_of-self c =
    (frame_goes c.self.invariant c.args.t c.args.j c.args.x c.args.m c.args.args.now c.args.stand.now (subst (λ w. WouldAct w c.args.t c.args.j (action.Call c.args.x c.args.m c.args.args.now) c.args.stand.now) (sym c.self.view_is) c.requires.wants)
    c.args.i (subst (λ w. MayStep w c.args.t) (sym c.self.view_is) c.requires.may) (subst (λ w. MayEnter w c.args.t c.args.x c.args.i) (sym c.self.view_is) c.requires.enters) c.laws.ensures c.is_kept.ensures c.frame_at_entry-frame.result c.frame_at_entry-frame.ensures
    (c.put.ensures.entries ∙ ap (λ args. c.self.inside.log.entries ++ entry.Call c.args.t c.self.inside.next_call c.args.x c.args.i c.args.m args ∷ []) c.copied.ensures) c.put.ensures.spare
    c.enter.ensures.heap c.wait.ensures.frames c.wait.ensures.instances c.enter.ensures.frames c.enter.ensures.instances
    (c.set_fuel.ensures ∙ ap (λ n. change_row c.self.inside.threads c.args.t (with_fuel n) (row c.self.inside.threads c.args.t)) c.saturating_sub.ensures) refl).kept

pub returns : goal.returns
returns c = rw (← c.self.view_is)
    (frame_goes c.self.invariant c.args.t c.args.j c.args.x c.args.m c.args.args.now c.args.stand.now (subst (λ w. WouldAct w c.args.t c.args.j (action.Call c.args.x c.args.m c.args.args.now) c.args.stand.now) (sym c.self.view_is) c.requires.wants)
    c.args.i (subst (λ w. MayStep w c.args.t) (sym c.self.view_is) c.requires.may) (subst (λ w. MayEnter w c.args.t c.args.x c.args.i) (sym c.self.view_is) c.requires.enters) c.laws.ensures c.is_kept.ensures c.frame_at_entry-frame.result c.frame_at_entry-frame.ensures
    (c.put.ensures.entries ∙ ap (λ args. c.self.inside.log.entries ++ entry.Call c.args.t c.self.inside.next_call c.args.x c.args.i c.args.m args ∷ []) c.copied.ensures) c.put.ensures.spare
    c.enter.ensures.heap c.wait.ensures.frames c.wait.ensures.instances c.enter.ensures.frames c.enter.ensures.instances
    (c.set_fuel.ensures ∙ ap (λ n. change_row c.self.inside.threads c.args.t (with_fuel n) (row c.self.inside.threads c.args.t)) c.saturating_sub.ensures) refl).went
