use Rattle.std.proofs.Common.{◌≡◌, ◌-◌, ◌∙◌, ap, sym, subst}
use Rattle.rl_defs.specs.declared.load.Command.TheVariants as command
use Rattle.machine_defs.specs.Wants.{Commands, wanted}
use Rattle.machine_steps.specs.Kept.{MayStep}
use Rattle.machine_steps.specs.Calls.{IsNamed}
use Rattle.machine_steps.proofs.NamedDrops.{drops_root, drops_unlent, drops_kept, sweep_room, drop_goes}
use Rattle.machine_steps.proofs.machine.Machine.drop_named.Goals as goal

pub drop_object-requires-clause-root : goal.drop_object-requires-clause-root
drop_object-requires-clause-root c =
    drops_root c.laws.ensures c.self.invariant c.is_kept.ensures.numbered c.args.t c.args.k c.args.o
    (subst (λ w. MayStep w c.args.t) (sym c.self.view_is) c.requires.may)
    (subst (λ w. wanted w.load w.state c.args.t ≡ Commands (command.Drop c.args.k)) (sym c.self.view_is) c.requires.wants)
    (subst (λ w. IsNamed w c.args.t c.args.k c.args.o) (sym c.self.view_is) c.requires.named)

pub drop_object-requires-clause-unlent : goal.drop_object-requires-clause-unlent
drop_object-requires-clause-unlent c =
    drops_unlent c.laws.ensures c.self.invariant c.is_kept.ensures.numbered c.args.t c.args.k c.args.o
    (subst (λ w. MayStep w c.args.t) (sym c.self.view_is) c.requires.may)
    (subst (λ w. wanted w.load w.state c.args.t ≡ Commands (command.Drop c.args.k)) (sym c.self.view_is) c.requires.wants)
    (subst (λ w. IsNamed w c.args.t c.args.k c.args.o) (sym c.self.view_is) c.requires.named)

pub drop_object-requires-clause-stays : goal.drop_object-requires-clause-stays
drop_object-requires-clause-stays c =
    drops_kept c.laws.ensures c.self.invariant c.is_kept.ensures.numbered c.args.t c.args.k c.args.o
    (subst (λ w. MayStep w c.args.t) (sym c.self.view_is) c.requires.may)
    (subst (λ w. wanted w.load w.state c.args.t ≡ Commands (command.Drop c.args.k)) (sym c.self.view_is) c.requires.wants)
    (subst (λ w. IsNamed w c.args.t c.args.k c.args.o) (sym c.self.view_is) c.requires.named)

pub sweep-requires : goal.sweep-requires
sweep-requires c =
    sweep_room c.laws.ensures c.self.invariant c.is_kept.ensures.numbered c.args.t c.args.k c.args.o
    (subst (λ w. MayStep w c.args.t) (sym c.self.view_is) c.requires.may)
    (subst (λ w. wanted w.load w.state c.args.t ≡ Commands (command.Drop c.args.k)) (sym c.self.view_is) c.requires.wants)
    (subst (λ w. IsNamed w c.args.t c.args.k c.args.o) (sym c.self.view_is) c.requires.named)
    c.put.new.self.spare c.put.ensures.spare c.drop_object.ensures

pub invariant_of-self : goal.invariant_of-self
invariant_of-self c =
    (drop_goes c.laws.ensures c.self.invariant c.is_kept.ensures.numbered c.args.t c.args.k c.args.o
    (subst (λ w. MayStep w c.args.t) (sym c.self.view_is) c.requires.may)
    (subst (λ w. wanted w.load w.state c.args.t ≡ Commands (command.Drop c.args.k)) (sym c.self.view_is) c.requires.wants)
    (subst (λ w. IsNamed w c.args.t c.args.k c.args.o) (sym c.self.view_is) c.requires.named)
    c.saturating_sub.result (c.saturating_sub.ensures ∙ ap (λ load. load.fuel - 1) c.rows.ensures.value)
    c.put.ensures.entries c.put.ensures.spare c.drop_object.ensures c.sweep.ensures.rows c.sweep.ensures.log c.sweep.ensures.spare c.set_fuel.ensures c.unbind.ensures c.end_command.ensures).kept

pub returns : goal.returns
returns c = rw (← c.self.view_is)
    (drop_goes c.laws.ensures c.self.invariant c.is_kept.ensures.numbered c.args.t c.args.k c.args.o
    (subst (λ w. MayStep w c.args.t) (sym c.self.view_is) c.requires.may)
    (subst (λ w. wanted w.load w.state c.args.t ≡ Commands (command.Drop c.args.k)) (sym c.self.view_is) c.requires.wants)
    (subst (λ w. IsNamed w c.args.t c.args.k c.args.o) (sym c.self.view_is) c.requires.named)
    c.saturating_sub.result (c.saturating_sub.ensures ∙ ap (λ load. load.fuel - 1) c.rows.ensures.value)
    c.put.ensures.entries c.put.ensures.spare c.drop_object.ensures c.sweep.ensures.rows c.sweep.ensures.log c.sweep.ensures.spare c.set_fuel.ensures c.unbind.ensures c.end_command.ensures).went
