use Rattle.std.proofs.Common.{◌≡◌, ◌-◌, ◌∙◌, true, Some, All, refl, sym, ap, subst}
use Rattle.machine_defs.specs.Arguments.{moved_of}
use Rattle.machine_defs.specs.Calling.{refusal}
use Rattle.machine_defs.specs.NativeFits.{are_distinct}
use Rattle.proxies.specs.Objects.{IsFree}
use Rattle.rl_defs.specs.declared.load.LoadRows.{LoadRows}
use Rattle.machine_steps.specs.Kept.{MayStep}
use Rattle.machine_steps.specs.Calls.{ClientCalls}
use Rattle.machine_steps.proofs.Freeing.{room_for_freed}
use Rattle.machine_steps.proofs.RefusedDrops.{all_free, moved_once, refused_frees}
use Rattle.machine_steps.proofs.Refusing.{client_made, client_makes, client_place, client_goes}
use Rattle.machine_steps.proofs.machine.Machine.client_refused.Goals as goal

pub give_up-requires-clause-free : goal.give_up-requires-clause-free
give_up-requires-clause-free c =
    let may = subst (λ w. MayStep w c.args.t) (sym c.self.view_is) c.requires.may in
    let calls = subst (λ w. ClientCalls w c.args.t c.args.x c.args.m c.args.args.now) (sym c.self.view_is) c.requires.calls in
    let refused = subst (λ w. refusal w.load w.state c.args.t c.args.x ≡ Some c.args.why) (sym c.self.view_is) c.requires.refused in
    subst (λ as'. All (IsFree c.self.inside.heap.rows) (moved_of as')) (sym c.as_slice.ensures.value) (all_free c.laws.ensures c.self.invariant c.args.t c.self.inside.next_call c.args.x c.args.m c.args.why c.args.args.now may
    (client_made c.self.invariant c.args.t c.args.x c.args.m c.args.args.now c.args.why may calls refused c.the_moved_are_given_up.ensures)
    (client_makes c.self.invariant c.args.t c.args.x c.args.m c.args.args.now c.args.why may calls refused c.the_moved_are_given_up.ensures) c.is_kept.ensures)

pub give_up-requires-clause-once : goal.give_up-requires-clause-once
give_up-requires-clause-once c =
    let may = subst (λ w. MayStep w c.args.t) (sym c.self.view_is) c.requires.may in
    let calls = subst (λ w. ClientCalls w c.args.t c.args.x c.args.m c.args.args.now) (sym c.self.view_is) c.requires.calls in
    let refused = subst (λ w. refusal w.load w.state c.args.t c.args.x ≡ Some c.args.why) (sym c.self.view_is) c.requires.refused in
    subst (λ as'. are_distinct (moved_of as') ≡ true) (sym c.as_slice.ensures.value) (moved_once c.laws.ensures c.self.invariant c.args.t c.self.inside.next_call c.args.x c.args.m c.args.why c.args.args.now may
    (client_made c.self.invariant c.args.t c.args.x c.args.m c.args.args.now c.args.why may calls refused c.the_moved_are_given_up.ensures)
    (client_makes c.self.invariant c.args.t c.args.x c.args.m c.args.args.now c.args.why may calls refused c.the_moved_are_given_up.ensures))

pub end_call-requires : goal.end_call-requires
end_call-requires c =
    let may = subst (λ w. MayStep w c.args.t) (sym c.self.view_is) c.requires.may in
    let calls = subst (λ w. ClientCalls w c.args.t c.args.x c.args.m c.args.args.now) (sym c.self.view_is) c.requires.calls in
    let refused = subst (λ w. refusal w.load w.state c.args.t c.args.x ≡ Some c.args.why) (sym c.self.view_is) c.requires.refused in
    client_place c.self.invariant c.args.t c.args.x c.args.m c.args.args.now c.args.why may calls refused c.the_moved_are_given_up.ensures
    c.saturating_sub.result (c.saturating_sub.ensures ∙ ap (λ (L : LoadRows). L.fuel - 1) c.rows.ensures.value) c.set_fuel.ensures c.give_up_names.ensures

pub sweep-requires : goal.sweep-requires
sweep-requires c =
    let may = subst (λ w. MayStep w c.args.t) (sym c.self.view_is) c.requires.may in
    let calls = subst (λ w. ClientCalls w c.args.t c.args.x c.args.m c.args.args.now) (sym c.self.view_is) c.requires.calls in
    let refused = subst (λ w. refusal w.load w.state c.args.t c.args.x ≡ Some c.args.why) (sym c.self.view_is) c.requires.refused in
    room_for_freed c.self.invariant c.args.t may (client_made c.self.invariant c.args.t c.args.x c.args.m c.args.args.now c.args.why may calls refused c.the_moved_are_given_up.ensures) c.give_up.new.heap.rows c.put.new.self.spare
    (refused_frees c.laws.ensures c.self.invariant c.args.t c.self.inside.next_call c.args.x c.args.m c.args.why c.args.args.now may
    (client_made c.self.invariant c.args.t c.args.x c.args.m c.args.args.now c.args.why may calls refused c.the_moved_are_given_up.ensures)
    (client_makes c.self.invariant c.args.t c.args.x c.args.m c.args.args.now c.args.why may calls refused c.the_moved_are_given_up.ensures) c.is_kept.ensures refl c.as_slice.result.now c.as_slice.ensures.value c.is_kept-2.ensures c.give_up.ensures)
    c.put.ensures.spare

pub invariant_of-self : goal.invariant_of-self
invariant_of-self c =
    let may = subst (λ w. MayStep w c.args.t) (sym c.self.view_is) c.requires.may in
    let calls = subst (λ w. ClientCalls w c.args.t c.args.x c.args.m c.args.args.now) (sym c.self.view_is) c.requires.calls in
    let refused = subst (λ w. refusal w.load w.state c.args.t c.args.x ≡ Some c.args.why) (sym c.self.view_is) c.requires.refused in
    (client_goes c.self.invariant c.args.t c.args.x c.args.m c.args.args.now c.args.why may calls refused c.the_moved_are_given_up.ensures
    c.saturating_sub.result (c.saturating_sub.ensures ∙ ap (λ (L : LoadRows). L.fuel - 1) c.rows.ensures.value) c.set_fuel.ensures c.give_up_names.ensures
    c.laws.ensures c.is_kept.ensures c.as_slice.result.now c.as_slice.ensures.value c.is_kept-2.ensures c.give_up.ensures c.copied.result c.copied.ensures
    c.put.ensures.entries c.put.ensures.spare c.end_call.ensures c.sweep.ensures.rows c.sweep.ensures.log c.sweep.ensures.spare).kept

pub returns : goal.returns
returns c =
    let may = subst (λ w. MayStep w c.args.t) (sym c.self.view_is) c.requires.may in
    let calls = subst (λ w. ClientCalls w c.args.t c.args.x c.args.m c.args.args.now) (sym c.self.view_is) c.requires.calls in
    let refused = subst (λ w. refusal w.load w.state c.args.t c.args.x ≡ Some c.args.why) (sym c.self.view_is) c.requires.refused in
    rw (← c.self.view_is) (client_goes c.self.invariant c.args.t c.args.x c.args.m c.args.args.now c.args.why may calls refused c.the_moved_are_given_up.ensures
    c.saturating_sub.result (c.saturating_sub.ensures ∙ ap (λ (L : LoadRows). L.fuel - 1) c.rows.ensures.value) c.set_fuel.ensures c.give_up_names.ensures
    c.laws.ensures c.is_kept.ensures c.as_slice.result.now c.as_slice.ensures.value c.is_kept-2.ensures c.give_up.ensures c.copied.result c.copied.ensures
    c.put.ensures.entries c.put.ensures.spare c.end_call.ensures c.sweep.ensures.rows c.sweep.ensures.log c.sweep.ensures.spare).went
