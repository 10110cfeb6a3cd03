use Rattle.std.proofs.Common.{◌≡◌, ap, sym, subst, ◌-◌, ◌∙◌}
use Rattle.machine_defs.specs.Wants.{wanted, Skips}
use Rattle.machine_steps.specs.Kept.{MayStep}
use Rattle.machine_steps.proofs.ScriptSteps.{skip_goes}
use Rattle.machine_steps.proofs.machine.Machine.skip.Goals as goal

pub invariant_of-self : goal.invariant_of-self
invariant_of-self c =
    (skip_goes c.laws.ensures c.self.invariant c.args.t c.args.number c.saturating_sub.result (subst (λ w. MayStep w c.args.t) (sym c.self.view_is) c.requires.may)
    (subst (λ w. wanted w.load w.state c.args.t ≡ Skips c.args.number) (sym c.self.view_is) c.requires.wants)
    (c.saturating_sub.ensures ∙ ap (λ load. load.fuel - 1) c.rows.ensures.value)
    c.put.ensures.entries c.put.ensures.spare c.set_fuel.ensures c.end_command.ensures).kept

pub returns : goal.returns
returns c = rw (← c.self.view_is)
    (skip_goes c.laws.ensures c.self.invariant c.args.t c.args.number c.saturating_sub.result (subst (λ w. MayStep w c.args.t) (sym c.self.view_is) c.requires.may)
    (subst (λ w. wanted w.load w.state c.args.t ≡ Skips c.args.number) (sym c.self.view_is) c.requires.wants)
    (c.saturating_sub.ensures ∙ ap (λ load. load.fuel - 1) c.rows.ensures.value)
    c.put.ensures.entries c.put.ensures.spare c.set_fuel.ensures c.end_command.ensures).went
