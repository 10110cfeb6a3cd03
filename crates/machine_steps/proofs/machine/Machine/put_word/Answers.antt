use Rattle.std.proofs.Common.{sym, subst}
use Rattle.machine_steps.specs.Kept.{MayStep}
use Rattle.machine_steps.specs.Acting.{WouldAct}
use Rattle.machine_defs.specs.declared.frame.Action.TheVariants as action
use Rattle.machine_defs.specs.declared.frame.Answer.TheVariants as answer
use Rattle.machine_steps.proofs.Acting.{awaits}
use Rattle.machine_steps.proofs.ObjectActs.{wput_acts, wput_goes}
use Rattle.machine_steps.proofs.machine.Machine.put_word.Goals as goal

pub go_on-requires-clause-code : goal.go_on-requires-clause-code
go_on-requires-clause-code c = (wput_acts c.self.invariant c.args.t c.args.i c.args.at c.args.value c.args.stand.now (subst (λ w. WouldAct w c.args.t c.args.i (action.Wput c.args.at c.args.value) c.args.stand.now) (sym c.self.view_is) c.requires.wants)).code

pub go_on-requires-clause-awaits : goal.go_on-requires-clause-awaits
go_on-requires-clause-awaits c =
    let acts = wput_acts c.self.invariant c.args.t c.args.i c.args.at c.args.value c.args.stand.now (subst (λ w. WouldAct w c.args.t c.args.i (action.Wput c.args.at c.args.value) c.args.stand.now) (sym c.self.view_is) c.requires.wants) in
    awaits acts answer.Went acts.can.1

pub invariant_of-self : goal.invariant_of-self
invariant_of-self c =
    (wput_goes c.self.invariant c.args.t c.args.i c.args.at c.args.value c.args.stand.now (subst (λ w. WouldAct w c.args.t c.args.i (action.Wput c.args.at c.args.value) c.args.stand.now) (sym c.self.view_is) c.requires.wants)
    c.laws.ensures (subst (λ w. MayStep w c.args.t) (sym c.self.view_is) c.requires.may)
    c.put.ensures.entries c.put.ensures.spare c.set_word.ensures c.go_on.ensures.frames c.go_on.ensures.instances c.go_on.ensures.threads).kept

pub returns : goal.returns
returns c = rw (← c.self.view_is)
    (wput_goes c.self.invariant c.args.t c.args.i c.args.at c.args.value c.args.stand.now (subst (λ w. WouldAct w c.args.t c.args.i (action.Wput c.args.at c.args.value) c.args.stand.now) (sym c.self.view_is) c.requires.wants)
    c.laws.ensures (subst (λ w. MayStep w c.args.t) (sym c.self.view_is) c.requires.may)
    c.put.ensures.entries c.put.ensures.spare c.set_word.ensures c.go_on.ensures.frames c.go_on.ensures.instances c.go_on.ensures.threads).went
