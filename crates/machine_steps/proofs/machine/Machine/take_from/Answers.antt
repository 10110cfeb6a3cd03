use Rattle.std.proofs.Common.{◌≡◌, Some, None, refl, sym, subst, ◌∙◌}
use Rattle.machine_defs.specs.declared.frame.Action.TheVariants as action
use Rattle.machine_defs.specs.Seen.{in_slot}
use Rattle.machine_steps.specs.Kept.{Kept}
use Rattle.machine_steps.specs.Inside.{state_of}
use Rattle.machine_steps.specs.Acting.{WouldAct}
use Rattle.machine_steps.proofs.SlotActs.{take_acts}
use Rattle.machine_steps.proofs.machine.Machine.take_from.Goals as goal

pub unreachable-requires : goal.unreachable-requires
unreachable-requires c =
    let acts = take_acts c.self.invariant c.args.t c.args.i c.args.slot c.args.stand.now (subst (λ (w : Kept). WouldAct w c.args.t c.args.i (action.Take c.args.slot) c.args.stand.now) (sym c.self.view_is) c.requires.wants) in
    let full : in_slot (state_of c.self.inside) c.args.i c.args.slot ≡ Some acts.can.object = acts.can.there in
    let e : None ≡ Some acts.can.object = sym c.in_default.is ∙ (c.slot.ensures ∙ full) in
    cc

pub returns : goal.returns
returns c = record { entry = _; by = refl; went = c.take_out.ensures.2; short = c.requires.may.short }
