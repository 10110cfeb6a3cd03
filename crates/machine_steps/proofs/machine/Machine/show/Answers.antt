use Rattle.std.proofs.Common.{◌≡◌, ◌-◌, ◌∙◌, ap, sym, subst}
use Rattle.rl_defs.specs.declared.load.Command.TheVariants as command
use Rattle.machine_defs.specs.Wants.{Commands, wanted}
use Rattle.machine_steps.specs.Kept.{MayStep}
use Rattle.machine_steps.specs.Inside.{state_of}
use Rattle.machine_steps.specs.Calls.{IsNamed}
use Rattle.machine_steps.proofs.Commands.{command_counted}
use Rattle.machine_steps.proofs.ScriptShows.{shows_there, shows_kept, shows_few, show_goes}
use Rattle.machine_steps.proofs.machine.Machine.show.Goals as goal

pub shown-requires-clause-there : goal.shown-requires-clause-there
shown-requires-clause-there c =
    shows_there c.laws.ensures c.self.invariant c.is_kept.ensures.numbered c.args.t c.args.k c.args.o
    (subst (λ w. MayStep w c.args.t) (sym c.self.view_is) c.requires.may)
    (subst (λ w. wanted w.load w.state c.args.t ≡ Commands (command.Show c.args.k)) (sym c.self.view_is) c.requires.wants)
    (subst (λ w. IsNamed w c.args.t c.args.k c.args.o) (sym c.self.view_is) c.requires.named)

pub shown-requires-clause-stays : goal.shown-requires-clause-stays
shown-requires-clause-stays c =
    shows_kept c.laws.ensures c.self.invariant c.is_kept.ensures.numbered c.args.t c.args.k c.args.o
    (subst (λ w. MayStep w c.args.t) (sym c.self.view_is) c.requires.may)
    (subst (λ w. wanted w.load w.state c.args.t ≡ Commands (command.Show c.args.k)) (sym c.self.view_is) c.requires.wants)
    (subst (λ w. IsNamed w c.args.t c.args.k c.args.o) (sym c.self.view_is) c.requires.named)

pub shown-requires-clause-few : goal.shown-requires-clause-few
shown-requires-clause-few c =
    shows_few c.laws.ensures c.self.invariant c.is_kept.ensures.numbered c.args.t c.args.k c.args.o
    (subst (λ w. MayStep w c.args.t) (sym c.self.view_is) c.requires.may)
    (subst (λ w. wanted w.load w.state c.args.t ≡ Commands (command.Show c.args.k)) (sym c.self.view_is) c.requires.wants)
    (subst (λ w. IsNamed w c.args.t c.args.k c.args.o) (sym c.self.view_is) c.requires.named)

pub end_command-requires : goal.end_command-requires
end_command-requires c =
    command_counted c.self.inside.load (state_of c.self.inside) c.self.invariant.valid c.args.t c.saturating_sub.result (command.Show c.args.k)
    (subst (λ w. wanted w.load w.state c.args.t ≡ Commands (command.Show c.args.k)) (sym c.self.view_is) c.requires.wants) c.set_fuel.ensures

pub invariant_of-self : goal.invariant_of-self
invariant_of-self c =
    (show_goes c.laws.ensures c.self.invariant c.is_kept.ensures.numbered c.args.t c.args.k c.args.o
    (subst (λ w. MayStep w c.args.t) (sym c.self.view_is) c.requires.may)
    (subst (λ w. wanted w.load w.state c.args.t ≡ Commands (command.Show c.args.k)) (sym c.self.view_is) c.requires.wants)
    (subst (λ w. IsNamed w c.args.t c.args.k c.args.o) (sym c.self.view_is) c.requires.named)
    c.saturating_sub.result (c.saturating_sub.ensures ∙ ap (λ load. load.fuel - 1) c.rows.ensures.value)
    c.in_ok-values.values c.in_ok-values.ensures c.put.ensures.entries c.put.ensures.spare c.set_fuel.ensures c.end_command.ensures).kept

pub returns-clause-ok : goal.returns-clause-ok
returns-clause-ok c = rw (← c.self.view_is)
    (show_goes c.laws.ensures c.self.invariant c.is_kept.ensures.numbered c.args.t c.args.k c.args.o
    (subst (λ w. MayStep w c.args.t) (sym c.self.view_is) c.requires.may)
    (subst (λ w. wanted w.load w.state c.args.t ≡ Commands (command.Show c.args.k)) (sym c.self.view_is) c.requires.wants)
    (subst (λ w. IsNamed w c.args.t c.args.k c.args.o) (sym c.self.view_is) c.requires.named)
    c.saturating_sub.result (c.saturating_sub.ensures ∙ ap (λ load. load.fuel - 1) c.rows.ensures.value)
    c.in_ok-values.values c.in_ok-values.ensures c.put.ensures.entries c.put.ensures.spare c.set_fuel.ensures c.end_command.ensures).went
