use Rattle.std.proofs.Common.{◌≡◌, ◌-◌, ◌∙◌, ap, sym, subst}
use Rattle.rl_defs.specs.declared.load.Command.TheVariants as command
use Rattle.machine_defs.specs.State.{current}
use Rattle.machine_defs.specs.Wants.{Commands, wanted}
use Rattle.machine_steps.specs.Kept.{MayStep}
use Rattle.machine_steps.proofs.Ending.{none_leave, kill_room, kill_goes}
use Rattle.machine_steps.proofs.machine.Machine.kill.Goals as goal

pub end_instance-requires-clause-swept : goal.end_instance-requires-clause-swept
end_instance-requires-clause-swept g c = none_leave c.self.invariant

pub end_instance-requires-clause-room : goal.end_instance-requires-clause-room
end_instance-requires-clause-room g c =
    kill_room c.laws.ensures c.self.invariant c.is_kept.ensures.numbered c.args.t c.args.target c.args.i c.saturating_sub.result
    (subst (λ w. MayStep w c.args.t) (sym c.self.view_is) c.requires.may)
    (subst (λ w. wanted w.load w.state c.args.t ≡ Commands (command.Kill c.args.target)) (sym c.self.view_is) c.requires.wants)
    (subst (λ w. c.args.i ≡ current w.load w.state c.args.target) (sym c.self.view_is) c.requires.into)

pub invariant_of-self : goal.invariant_of-self
invariant_of-self g c =
    (kill_goes c.laws.ensures c.self.invariant c.is_kept.ensures.numbered c.args.t c.args.target c.args.i c.saturating_sub.result
    (subst (λ w. MayStep w c.args.t) (sym c.self.view_is) c.requires.may)
    (subst (λ w. wanted w.load w.state c.args.t ≡ Commands (command.Kill c.args.target)) (sym c.self.view_is) c.requires.wants)
    (subst (λ w. c.args.i ≡ current w.load w.state c.args.target) (sym c.self.view_is) c.requires.into)
    (c.saturating_sub.ensures ∙ ap (λ load. load.fuel - 1) c.rows.ensures.value)
    c.end_instance.ensures.log c.end_instance.ensures.spare c.end_instance.ensures.heap c.end_instance.ensures.instances c.set_fuel.ensures c.end_command.ensures).kept

pub returns : goal.returns
returns g c = rw (← c.self.view_is)
    (kill_goes c.laws.ensures c.self.invariant c.is_kept.ensures.numbered c.args.t c.args.target c.args.i c.saturating_sub.result
    (subst (λ w. MayStep w c.args.t) (sym c.self.view_is) c.requires.may)
    (subst (λ w. wanted w.load w.state c.args.t ≡ Commands (command.Kill c.args.target)) (sym c.self.view_is) c.requires.wants)
    (subst (λ w. c.args.i ≡ current w.load w.state c.args.target) (sym c.self.view_is) c.requires.into)
    (c.saturating_sub.ensures ∙ ap (λ load. load.fuel - 1) c.rows.ensures.value)
    c.end_instance.ensures.log c.end_instance.ensures.spare c.end_instance.ensures.heap c.end_instance.ensures.instances c.set_fuel.ensures c.end_command.ensures).went
