use Rattle.std.proofs.Common.{◌-◌, ◌++◌, ◌∷◌, [], refl, sym, ap, subst, ◌∙◌}
use Rattle.machine_defs.specs.declared.entry.Entry.TheVariants as entry
use Rattle.machine_steps.specs.Kept.{MayStep}
use Rattle.machine_steps.specs.Calls.{ClientCalls, MayEnter}
use Rattle.machine_steps.proofs.CallingSteps.{call_target, call_enters, call_gives, call_owner, call_client, call_counted}
use Rattle.machine_steps.proofs.ClientEntering.{client_wants, client_threads, client_goes}
use Rattle.machine_steps.proofs.machine.Machine.client_enters.Goals as goal

pub frame_at_entry-frame-requires-clause-target : goal.frame_at_entry-frame-requires-clause-target
frame_at_entry-frame-requires-clause-target c =
    call_target c.self.invariant c.args.t c.args.x c.args.m c.args.i c.args.args.now _ (subst (λ w. MayStep w c.args.t) (sym c.self.view_is) c.requires.may) (client_wants c.self.invariant c.args.t c.args.x c.args.m c.args.args.now (subst (λ w. MayStep w c.args.t) (sym c.self.view_is) c.requires.may) (subst (λ w. ClientCalls w c.args.t c.args.x c.args.m c.args.args.now) (sym c.self.view_is) c.requires.wants)) (subst (λ w. MayEnter w c.args.t c.args.x c.args.i) (sym c.self.view_is) c.requires.enters)

pub frame_at_entry-frame-requires-clause-enters : goal.frame_at_entry-frame-requires-clause-enters
frame_at_entry-frame-requires-clause-enters c =
    call_enters c.self.invariant c.args.t c.args.x c.args.m c.args.i c.args.args.now _ (subst (λ w. MayStep w c.args.t) (sym c.self.view_is) c.requires.may) (client_wants c.self.invariant c.args.t c.args.x c.args.m c.args.args.now (subst (λ w. MayStep w c.args.t) (sym c.self.view_is) c.requires.may) (subst (λ w. ClientCalls w c.args.t c.args.x c.args.m c.args.args.now) (sym c.self.view_is) c.requires.wants)) (subst (λ w. MayEnter w c.args.t c.args.x c.args.i) (sym c.self.view_is) c.requires.enters)

pub enter-requires-clause-gives : goal.enter-requires-clause-gives
enter-requires-clause-gives c =
    call_gives c.self.invariant c.args.t c.args.x c.args.m c.args.i c.args.args.now _ (subst (λ w. MayStep w c.args.t) (sym c.self.view_is) c.requires.may) (client_wants c.self.invariant c.args.t c.args.x c.args.m c.args.args.now (subst (λ w. MayStep w c.args.t) (sym c.self.view_is) c.requires.may) (subst (λ w. ClientCalls w c.args.t c.args.x c.args.m c.args.args.now) (sym c.self.view_is) c.requires.wants)) (subst (λ w. MayEnter w c.args.t c.args.x c.args.i) (sym c.self.view_is) c.requires.enters) c.laws.ensures c.is_kept.ensures c.frame_at_entry-frame.result c.frame_at_entry-frame.ensures

pub enter-requires-clause-owner : goal.enter-requires-clause-owner
enter-requires-clause-owner c =
    call_owner c.self.invariant c.args.t c.args.x c.args.m c.args.i c.args.args.now _ (subst (λ w. MayStep w c.args.t) (sym c.self.view_is) c.requires.may) (client_wants c.self.invariant c.args.t c.args.x c.args.m c.args.args.now (subst (λ w. MayStep w c.args.t) (sym c.self.view_is) c.requires.may) (subst (λ w. ClientCalls w c.args.t c.args.x c.args.m c.args.args.now) (sym c.self.view_is) c.requires.wants)) (subst (λ w. MayEnter w c.args.t c.args.x c.args.i) (sym c.self.view_is) c.requires.enters) c.frame_at_entry-frame.result c.frame_at_entry-frame.ensures

pub enter-requires-clause-a_client : goal.enter-requires-clause-a_client
enter-requires-clause-a_client c =
    call_client c.self.invariant c.args.t c.args.x c.args.m c.args.i c.args.args.now _ (subst (λ w. MayStep w c.args.t) (sym c.self.view_is) c.requires.may) (client_wants c.self.invariant c.args.t c.args.x c.args.m c.args.args.now (subst (λ w. MayStep w c.args.t) (sym c.self.view_is) c.requires.may) (subst (λ w. ClientCalls w c.args.t c.args.x c.args.m c.args.args.now) (sym c.self.view_is) c.requires.wants)) (subst (λ w. MayEnter w c.args.t c.args.x c.args.i) (sym c.self.view_is) c.requires.enters)

pub enter-requires-clause-counted : goal.enter-requires-clause-counted
enter-requires-clause-counted c =
    call_counted c.self.invariant c.args.t c.args.x c.args.m c.args.i c.args.args.now _ (subst (λ w. MayStep w c.args.t) (sym c.self.view_is) c.requires.may) (client_wants c.self.invariant c.args.t c.args.x c.args.m c.args.args.now (subst (λ w. MayStep w c.args.t) (sym c.self.view_is) c.requires.may) (subst (λ w. ClientCalls w c.args.t c.args.x c.args.m c.args.args.now) (sym c.self.view_is) c.requires.wants)) (subst (λ w. MayEnter w c.args.t c.args.x c.args.i) (sym c.self.view_is) c.requires.enters) c.frame_at_entry-frame.result c.frame_at_entry-frame.ensures

pub invariant_of-self : goal.invariant_of-self
invariant_of-self c =
    (client_goes c.self.invariant c.args.t c.args.x c.args.m c.args.args.now (subst (λ w. MayStep w c.args.t) (sym c.self.view_is) c.requires.may) (subst (λ w. ClientCalls w c.args.t c.args.x c.args.m c.args.args.now) (sym c.self.view_is) c.requires.wants)
    c.args.i (subst (λ w. MayEnter w c.args.t c.args.x c.args.i) (sym c.self.view_is) c.requires.enters) c.laws.ensures c.is_kept.ensures c.frame_at_entry-frame.result c.frame_at_entry-frame.ensures
    (c.put.ensures.entries ∙ ap (λ args. c.self.inside.log.entries ++ entry.Call c.args.t c.self.inside.next_call c.args.x c.args.i c.args.m args ∷ []) c.copied.ensures) c.put.ensures.spare
    c.enter.ensures.heap c.enter.ensures.frames c.enter.ensures.instances
    (client_threads c.self.invariant c.args.t c.args.x c.args.m c.args.args.now (subst (λ w. MayStep w c.args.t) (sym c.self.view_is) c.requires.may) (subst (λ w. ClientCalls w c.args.t c.args.x c.args.m c.args.args.now) (sym c.self.view_is) c.requires.wants)
    c.the_moved_are_given_up.ensures (c.saturating_sub.ensures ∙ ap (λ L. L.fuel - 1) c.rows.ensures.value) c.set_fuel.ensures c.give_up_names.ensures) refl).kept

pub returns : goal.returns
returns c = rw (← c.self.view_is)
    (client_goes c.self.invariant c.args.t c.args.x c.args.m c.args.args.now (subst (λ w. MayStep w c.args.t) (sym c.self.view_is) c.requires.may) (subst (λ w. ClientCalls w c.args.t c.args.x c.args.m c.args.args.now) (sym c.self.view_is) c.requires.wants)
    c.args.i (subst (λ w. MayEnter w c.args.t c.args.x c.args.i) (sym c.self.view_is) c.requires.enters) c.laws.ensures c.is_kept.ensures c.frame_at_entry-frame.result c.frame_at_entry-frame.ensures
    (c.put.ensures.entries ∙ ap (λ args. c.self.inside.log.entries ++ entry.Call c.args.t c.self.inside.next_call c.args.x c.args.i c.args.m args ∷ []) c.copied.ensures) c.put.ensures.spare
    c.enter.ensures.heap c.enter.ensures.frames c.enter.ensures.instances
    (client_threads c.self.invariant c.args.t c.args.x c.args.m c.args.args.now (subst (λ w. MayStep w c.args.t) (sym c.self.view_is) c.requires.may) (subst (λ w. ClientCalls w c.args.t c.args.x c.args.m c.args.args.now) (sym c.self.view_is) c.requires.wants)
    c.the_moved_are_given_up.ensures (c.saturating_sub.ensures ∙ ap (λ L. L.fuel - 1) c.rows.ensures.value) c.set_fuel.ensures c.give_up_names.ensures) refl).went
