use Rattle.std.proofs.Common.{sym, subst}
use Rattle.machine_defs.specs.declared.frame.Action.TheVariants as action
use Rattle.machine_steps.specs.Kept.{MayStep}
use Rattle.machine_steps.specs.Acting.{WouldAct}
use Rattle.machine_steps.proofs.Ending.{none_leave, trap_room, trap_goes}
use Rattle.machine_steps.proofs.machine.Machine.trap.Goals as goal

pub end_instance-requires-clause-swept : goal.end_instance-requires-clause-swept
end_instance-requires-clause-swept g c = none_leave c.self.invariant

pub end_instance-requires-clause-room : goal.end_instance-requires-clause-room
end_instance-requires-clause-room g c =
    trap_room c.laws.ensures c.self.invariant c.is_kept.ensures.numbered c.args.t c.args.i c.args.cause c.args.stand.now
    (subst (λ w. MayStep w c.args.t) (sym c.self.view_is) c.requires.may)
    (subst (λ w. WouldAct w c.args.t c.args.i (action.Trap c.args.cause) c.args.stand.now) (sym c.self.view_is) c.requires.wants)

pub invariant_of-self : goal.invariant_of-self
invariant_of-self g c =
    (trap_goes c.laws.ensures c.self.invariant c.is_kept.ensures.numbered c.args.t c.args.i c.args.cause c.args.stand.now
    (subst (λ w. MayStep w c.args.t) (sym c.self.view_is) c.requires.may)
    (subst (λ w. WouldAct w c.args.t c.args.i (action.Trap c.args.cause) c.args.stand.now) (sym c.self.view_is) c.requires.wants)
    c.end_instance.ensures.log c.end_instance.ensures.spare c.end_instance.ensures.heap c.end_instance.ensures.instances c.set_fuel.ensures).kept

pub returns : goal.returns
returns g c = rw (← c.self.view_is)
    (trap_goes c.laws.ensures c.self.invariant c.is_kept.ensures.numbered c.args.t c.args.i c.args.cause c.args.stand.now
    (subst (λ w. MayStep w c.args.t) (sym c.self.view_is) c.requires.may)
    (subst (λ w. WouldAct w c.args.t c.args.i (action.Trap c.args.cause) c.args.stand.now) (sym c.self.view_is) c.requires.wants)
    c.end_instance.ensures.log c.end_instance.ensures.spare c.end_instance.ensures.heap c.end_instance.ensures.instances c.set_fuel.ensures).went
