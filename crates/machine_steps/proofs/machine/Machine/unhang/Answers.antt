use Rattle.std.proofs.Common.{◌≡◌, Some, sym, subst}
use Rattle.machine_defs.specs.declared.entry.Entry.TheVariants as entry
use Rattle.machine_defs.specs.declared.frame.Action.TheVariants as action
use Rattle.machine_defs.specs.declared.frame.Answer.TheVariants as answer
use Rattle.machine_defs.specs.Objects.{hung_in}
use Rattle.machine_steps.specs.Kept.{MayStep}
use Rattle.machine_steps.specs.Acting.{WouldAct}
use Rattle.machine_steps.proofs.Stepping.{Stepped}
use Rattle.machine_steps.proofs.Acting.{awaits}
use Rattle.machine_steps.proofs.ActSteps.{brought}
use Rattle.machine_steps.proofs.HangActs.{unhang_acts, unhang_root, unhang_goes}
use Rattle.machine_steps.proofs.machine.Machine.unhang.Goals as goal

pub go_on-requires-clause-code : goal.go_on-requires-clause-code
go_on-requires-clause-code c = (unhang_acts c.self.invariant c.is_kept.ensures c.args.t c.args.i c.args.o c.args.at c.args.v c.args.stand.now (subst (λ w. WouldAct w c.args.t c.args.i (action.Unhang c.args.o c.args.at) c.args.stand.now) (sym c.self.view_is) c.requires.wants) (subst (λ w. hung_in w.state c.args.o c.args.at ≡ Some c.args.v) (sym c.self.view_is) c.requires.full)).code

pub go_on-requires-clause-awaits : goal.go_on-requires-clause-awaits
go_on-requires-clause-awaits c =
    let acts = unhang_acts c.self.invariant c.is_kept.ensures c.args.t c.args.i c.args.o c.args.at c.args.v c.args.stand.now (subst (λ w. WouldAct w c.args.t c.args.i (action.Unhang c.args.o c.args.at) c.args.stand.now) (sym c.self.view_is) c.requires.wants) (subst (λ w. hung_in w.state c.args.o c.args.at ≡ Some c.args.v) (sym c.self.view_is) c.requires.full) in
    awaits acts (answer.Made c.args.v) (brought acts.can (subst (λ w. hung_in w.state c.args.o c.args.at ≡ Some c.args.v) (sym c.self.view_is) c.requires.full))

pub unhang-requires-clause-root : goal.unhang-requires-clause-root
unhang-requires-clause-root c = (unhang_root c.self.invariant c.is_kept.ensures c.args.t c.args.i c.args.o c.args.at c.args.v c.args.stand.now (subst (λ w. WouldAct w c.args.t c.args.i (action.Unhang c.args.o c.args.at) c.args.stand.now) (sym c.self.view_is) c.requires.wants) (subst (λ w. hung_in w.state c.args.o c.args.at ≡ Some c.args.v) (sym c.self.view_is) c.requires.full) c.laws.ensures (subst (λ w. MayStep w c.args.t) (sym c.self.view_is) c.requires.may)).root

pub unhang-requires-clause-stays : goal.unhang-requires-clause-stays
unhang-requires-clause-stays c = (unhang_root c.self.invariant c.is_kept.ensures c.args.t c.args.i c.args.o c.args.at c.args.v c.args.stand.now (subst (λ w. WouldAct w c.args.t c.args.i (action.Unhang c.args.o c.args.at) c.args.stand.now) (sym c.self.view_is) c.requires.wants) (subst (λ w. hung_in w.state c.args.o c.args.at ≡ Some c.args.v) (sym c.self.view_is) c.requires.full) c.laws.ensures (subst (λ w. MayStep w c.args.t) (sym c.self.view_is) c.requires.may)).stays

stepped : (c : goal.After-unhang)
    → Stepped c.self.inside (record c.self.inside { log = c.put.new.self; heap = c.unhang.new.self; stacks = c.go_on.new.stacks; threads = c.go_on.new.threads }) (entry.Unhang c.args.t c.args.o c.args.at c.args.v)
stepped c =
    unhang_goes c.self.invariant c.is_kept.ensures c.args.t c.args.i c.args.o c.args.at c.args.v c.args.stand.now (subst (λ w. WouldAct w c.args.t c.args.i (action.Unhang c.args.o c.args.at) c.args.stand.now) (sym c.self.view_is) c.requires.wants) (subst (λ w. hung_in w.state c.args.o c.args.at ≡ Some c.args.v) (sym c.self.view_is) c.requires.full) c.laws.ensures (subst (λ w. MayStep w c.args.t) (sym c.self.view_is) c.requires.may)
    (record { entries = c.put.ensures.entries; spare = c.put.ensures.spare; frames = c.go_on.ensures.frames; counts = c.go_on.ensures.instances; charged = c.go_on.ensures.threads })
    c.unhang.ensures.object c.unhang.ensures.rows

pub invariant_of-self : goal.invariant_of-self
invariant_of-self c = (stepped c).kept

pub returns : goal.returns
returns c = rw (← c.self.view_is) (stepped c).went
