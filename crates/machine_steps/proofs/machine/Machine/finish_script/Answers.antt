use Rattle.std.proofs.Common.{◌≡◌, sym, subst}
use Rattle.machine_defs.specs.Wants.{wanted, Finishes}
use Rattle.machine_steps.specs.Kept.{MayStep}
use Rattle.machine_steps.proofs.Stepping.{room_for_entry}
use Rattle.machine_steps.proofs.ScriptSteps.{done_goes}
use Rattle.machine_steps.proofs.machine.Machine.finish_script.Goals as goal

pub put-requires : goal.put-requires
put-requires c = room_for_entry c.args.t c.self.invariant (subst (λ w. MayStep w c.args.t) (sym c.self.view_is) c.requires.may)

pub invariant_of-self : goal.invariant_of-self
invariant_of-self c =
    (done_goes c.laws.ensures c.self.invariant c.args.t (subst (λ w. MayStep w c.args.t) (sym c.self.view_is) c.requires.may)
    (subst (λ w. wanted w.load w.state c.args.t ≡ Finishes) (sym c.self.view_is) c.requires.wants)
    c.put.ensures.entries c.put.ensures.spare c.finish.ensures).kept

pub returns : goal.returns
returns c = rw (← c.self.view_is)
    (done_goes c.laws.ensures c.self.invariant c.args.t (subst (λ w. MayStep w c.args.t) (sym c.self.view_is) c.requires.may)
    (subst (λ w. wanted w.load w.state c.args.t ≡ Finishes) (sym c.self.view_is) c.requires.wants)
    c.put.ensures.entries c.put.ensures.spare c.finish.ensures).went
