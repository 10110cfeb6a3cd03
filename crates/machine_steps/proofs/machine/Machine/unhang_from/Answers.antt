use Rattle.std.proofs.Common.{◌≡◌, Some, None, sym, subst, ◌∙◌}
use Rattle.machine_defs.specs.declared.frame.Action.TheVariants as action
use Rattle.machine_defs.specs.declared.values.Owner.TheVariants as owner
use Rattle.machine_steps.specs.Kept.{Kept, MayStep}
use Rattle.machine_steps.specs.Acting.{WouldAct}
use Rattle.machine_steps.proofs.RowsSeen.{RootSeen}
use Rattle.machine_steps.proofs.HangActs.{HungFull, hung_full, unhang_root}
use Rattle.machine_steps.proofs.machine.Machine.unhang_from.Goals as goal

full : (c : goal.After-hung-arg-1) → HungFull c.self.inside c.args.object c.args.at
full c = hung_full c.self.invariant c.args.t c.args.i c.args.object c.args.at c.args.stand.now (subst (λ (w : Kept). WouldAct w c.args.t c.args.i (action.Unhang c.args.object c.args.at) c.args.stand.now) (sym c.self.view_is) c.requires.wants)

root : (c : goal.After-hung-arg-1) → RootSeen c.self.inside c.args.object (owner.Instance c.args.i)
root c = unhang_root c.self.invariant c.is_kept.ensures c.args.t c.args.i c.args.object c.args.at (full c).hung c.args.stand.now (subst (λ (w : Kept). WouldAct w c.args.t c.args.i (action.Unhang c.args.object c.args.at) c.args.stand.now) (sym c.self.view_is) c.requires.wants)
    (full c).is c.laws.ensures (subst (λ (w : Kept). MayStep w c.args.t) (sym c.self.view_is) c.requires.may)

pub hung-requires-clause-there : goal.hung-requires-clause-there
hung-requires-clause-there c = (root c).there

pub hung-requires-clause-stays : goal.hung-requires-clause-stays
hung-requires-clause-stays c = (root c).stays

pub unreachable-requires : goal.unreachable-requires
unreachable-requires c =
    let f = hung_full c.self.invariant c.args.t c.args.i c.args.object c.args.at c.args.stand.now (subst (λ (w : Kept). WouldAct w c.args.t c.args.i (action.Unhang c.args.object c.args.at) c.args.stand.now) (sym c.self.view_is) c.requires.wants) in
    let e : None ≡ Some f.hung = sym c.in_default.is ∙ (c.hung.ensures ∙ f.is) in
    cc
