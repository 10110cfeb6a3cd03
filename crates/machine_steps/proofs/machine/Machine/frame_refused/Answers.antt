use Rattle.std.proofs.Common.{◌≡◌, true, Some, All, refl, sym, subst}
use Rattle.machine_defs.specs.declared.frame.Action.TheVariants as action
use Rattle.machine_defs.specs.Arguments.{moved_of}
use Rattle.machine_defs.specs.Calling.{refusal}
use Rattle.machine_defs.specs.NativeFits.{are_distinct}
use Rattle.proxies.specs.Objects.{IsFree}
use Rattle.machine_steps.specs.Kept.{MayStep}
use Rattle.machine_steps.specs.Acting.{WouldAct}
use Rattle.machine_steps.proofs.Freeing.{room_for_freed}
use Rattle.machine_steps.proofs.RefusedDrops.{all_free, moved_once, refused_frees}
use Rattle.machine_steps.proofs.FrameRefusing.{call_acts, call_awaits, frame_made, frame_makes, frame_goes}
use Rattle.machine_steps.proofs.machine.Machine.frame_refused.Goals as goal

pub give_up-requires-clause-free : goal.give_up-requires-clause-free
give_up-requires-clause-free c =
    let may = subst (λ w. MayStep w c.args.t) (sym c.self.view_is) c.requires.may in
    let would = subst (λ w. WouldAct w c.args.t c.args.j (action.Call c.args.x c.args.m c.args.args.now) c.args.stand.now) (sym c.self.view_is) c.requires.wants in
    let refused = subst (λ w. refusal w.load w.state c.args.t c.args.x ≡ Some c.args.why) (sym c.self.view_is) c.requires.refused in
    subst (λ as'. All (IsFree c.self.inside.heap.rows) (moved_of as')) (sym c.as_slice.ensures.value) (all_free c.laws.ensures c.self.invariant c.args.t c.self.inside.next_call c.args.x c.args.m c.args.why c.args.args.now may
    (frame_made c.self.invariant c.args.t c.args.j c.args.x c.args.m c.args.args.now c.args.why c.args.stand.now may would refused)
    (frame_makes c.self.invariant c.args.t c.args.j c.args.x c.args.m c.args.args.now c.args.why c.args.stand.now may would refused) c.is_kept.ensures)

pub give_up-requires-clause-once : goal.give_up-requires-clause-once
give_up-requires-clause-once c =
    let may = subst (λ w. MayStep w c.args.t) (sym c.self.view_is) c.requires.may in
    let would = subst (λ w. WouldAct w c.args.t c.args.j (action.Call c.args.x c.args.m c.args.args.now) c.args.stand.now) (sym c.self.view_is) c.requires.wants in
    let refused = subst (λ w. refusal w.load w.state c.args.t c.args.x ≡ Some c.args.why) (sym c.self.view_is) c.requires.refused in
    subst (λ as'. are_distinct (moved_of as') ≡ true) (sym c.as_slice.ensures.value) (moved_once c.laws.ensures c.self.invariant c.args.t c.self.inside.next_call c.args.x c.args.m c.args.why c.args.args.now may
    (frame_made c.self.invariant c.args.t c.args.j c.args.x c.args.m c.args.args.now c.args.why c.args.stand.now may would refused)
    (frame_makes c.self.invariant c.args.t c.args.j c.args.x c.args.m c.args.args.now c.args.why c.args.stand.now may would refused))

pub go_on-requires-clause-a_client : goal.go_on-requires-clause-a_client
go_on-requires-clause-a_client c =
    let may = subst (λ w. MayStep w c.args.t) (sym c.self.view_is) c.requires.may in
    let would = subst (λ w. WouldAct w c.args.t c.args.j (action.Call c.args.x c.args.m c.args.args.now) c.args.stand.now) (sym c.self.view_is) c.requires.wants in
    let refused = subst (λ w. refusal w.load w.state c.args.t c.args.x ≡ Some c.args.why) (sym c.self.view_is) c.requires.refused in
    (call_acts c.self.invariant c.args.t c.args.j c.args.x c.args.m c.args.args.now c.args.why c.args.stand.now may would refused).on.client

pub go_on-requires-clause-code : goal.go_on-requires-clause-code
go_on-requires-clause-code c =
    let may = subst (λ w. MayStep w c.args.t) (sym c.self.view_is) c.requires.may in
    let would = subst (λ w. WouldAct w c.args.t c.args.j (action.Call c.args.x c.args.m c.args.args.now) c.args.stand.now) (sym c.self.view_is) c.requires.wants in
    let refused = subst (λ w. refusal w.load w.state c.args.t c.args.x ≡ Some c.args.why) (sym c.self.view_is) c.requires.refused in
    (call_acts c.self.invariant c.args.t c.args.j c.args.x c.args.m c.args.args.now c.args.why c.args.stand.now may would refused).code

pub go_on-requires-clause-awaits : goal.go_on-requires-clause-awaits
go_on-requires-clause-awaits c =
    let may = subst (λ w. MayStep w c.args.t) (sym c.self.view_is) c.requires.may in
    let would = subst (λ w. WouldAct w c.args.t c.args.j (action.Call c.args.x c.args.m c.args.args.now) c.args.stand.now) (sym c.self.view_is) c.requires.wants in
    let refused = subst (λ w. refusal w.load w.state c.args.t c.args.x ≡ Some c.args.why) (sym c.self.view_is) c.requires.refused in
    call_awaits c.self.invariant c.args.t c.args.j c.args.x c.args.m c.args.args.now c.args.why c.args.stand.now may would refused
    c.wait.new.stand c.wait.ensures

pub sweep-requires : goal.sweep-requires
sweep-requires c =
    let may = subst (λ w. MayStep w c.args.t) (sym c.self.view_is) c.requires.may in
    let would = subst (λ w. WouldAct w c.args.t c.args.j (action.Call c.args.x c.args.m c.args.args.now) c.args.stand.now) (sym c.self.view_is) c.requires.wants in
    let refused = subst (λ w. refusal w.load w.state c.args.t c.args.x ≡ Some c.args.why) (sym c.self.view_is) c.requires.refused in
    room_for_freed c.self.invariant c.args.t may (frame_made c.self.invariant c.args.t c.args.j c.args.x c.args.m c.args.args.now c.args.why c.args.stand.now may would refused) c.give_up.new.heap.rows c.put.new.self.spare
    (refused_frees c.laws.ensures c.self.invariant c.args.t c.self.inside.next_call c.args.x c.args.m c.args.why c.args.args.now may
    (frame_made c.self.invariant c.args.t c.args.j c.args.x c.args.m c.args.args.now c.args.why c.args.stand.now may would refused)
    (frame_makes c.self.invariant c.args.t c.args.j c.args.x c.args.m c.args.args.now c.args.why c.args.stand.now may would refused) c.is_kept.ensures refl c.as_slice.result.now c.as_slice.ensures.value c.is_kept-2.ensures c.give_up.ensures)
    c.put.ensures.spare

pub invariant_of-self : goal.invariant_of-self
invariant_of-self c =
    let may = subst (λ w. MayStep w c.args.t) (sym c.self.view_is) c.requires.may in
    let would = subst (λ w. WouldAct w c.args.t c.args.j (action.Call c.args.x c.args.m c.args.args.now) c.args.stand.now) (sym c.self.view_is) c.requires.wants in
    let refused = subst (λ w. refusal w.load w.state c.args.t c.args.x ≡ Some c.args.why) (sym c.self.view_is) c.requires.refused in
    (frame_goes c.self.invariant c.args.t c.args.j c.args.x c.args.m c.args.args.now c.args.why c.args.stand.now may would refused
    c.wait.new.stand c.wait.ensures c.laws.ensures c.is_kept.ensures c.as_slice.result.now c.as_slice.ensures.value c.is_kept-2.ensures c.give_up.ensures c.copied.result c.copied.ensures
    c.put.ensures.entries c.put.ensures.spare c.go_on.ensures.frames c.go_on.ensures.instances c.go_on.ensures.threads c.sweep.ensures.rows c.sweep.ensures.log c.sweep.ensures.spare).kept

pub returns : goal.returns
returns c =
    let may = subst (λ w. MayStep w c.args.t) (sym c.self.view_is) c.requires.may in
    let would = subst (λ w. WouldAct w c.args.t c.args.j (action.Call c.args.x c.args.m c.args.args.now) c.args.stand.now) (sym c.self.view_is) c.requires.wants in
    let refused = subst (λ w. refusal w.load w.state c.args.t c.args.x ≡ Some c.args.why) (sym c.self.view_is) c.requires.refused in
    rw (← c.self.view_is) (frame_goes c.self.invariant c.args.t c.args.j c.args.x c.args.m c.args.args.now c.args.why c.args.stand.now may would refused
    c.wait.new.stand c.wait.ensures c.laws.ensures c.is_kept.ensures c.as_slice.result.now c.as_slice.ensures.value c.is_kept-2.ensures c.give_up.ensures c.copied.result c.copied.ensures
    c.put.ensures.entries c.put.ensures.spare c.go_on.ensures.frames c.go_on.ensures.instances c.go_on.ensures.threads c.sweep.ensures.rows c.sweep.ensures.log c.sweep.ensures.spare).went
