use Rattle.std.proofs.Common.{sym, subst}
use Rattle.machine_defs.specs.declared.entry.Entry.TheVariants as entry
use Rattle.machine_defs.specs.declared.frame.Action.TheVariants as action
use Rattle.machine_defs.specs.declared.frame.Answer.TheVariants as answer
use Rattle.machine_steps.specs.Kept.{MayStep}
use Rattle.machine_steps.specs.Acting.{WouldAct}
use Rattle.machine_steps.proofs.Stepping.{Stepped}
use Rattle.machine_steps.proofs.Acting.{awaits}
use Rattle.machine_steps.proofs.HangActs.{hang_acts, may_hang, hang_goes}
use Rattle.machine_steps.proofs.machine.Machine.hang.Goals as goal

pub go_on-requires-clause-code : goal.go_on-requires-clause-code
go_on-requires-clause-code c = (hang_acts c.self.invariant c.is_kept.ensures c.args.t c.args.i c.args.o c.args.at c.args.v c.args.stand.now (subst (λ w. WouldAct w c.args.t c.args.i (action.Hang c.args.o c.args.at c.args.v) c.args.stand.now) (sym c.self.view_is) c.requires.wants)).code

pub go_on-requires-clause-awaits : goal.go_on-requires-clause-awaits
go_on-requires-clause-awaits c =
    let acts = hang_acts c.self.invariant c.is_kept.ensures c.args.t c.args.i c.args.o c.args.at c.args.v c.args.stand.now (subst (λ w. WouldAct w c.args.t c.args.i (action.Hang c.args.o c.args.at c.args.v) c.args.stand.now) (sym c.self.view_is) c.requires.wants) in
    awaits acts answer.Went acts.can.2

pub hang-requires-clause-parent : goal.hang-requires-clause-parent
hang-requires-clause-parent c = (may_hang c.self.invariant c.is_kept.ensures c.args.t c.args.i c.args.o c.args.at c.args.v c.args.stand.now (subst (λ w. WouldAct w c.args.t c.args.i (action.Hang c.args.o c.args.at c.args.v) c.args.stand.now) (sym c.self.view_is) c.requires.wants) c.laws.ensures (subst (λ w. MayStep w c.args.t) (sym c.self.view_is) c.requires.may)).parent.root

pub hang-requires-clause-child : goal.hang-requires-clause-child
hang-requires-clause-child c = (may_hang c.self.invariant c.is_kept.ensures c.args.t c.args.i c.args.o c.args.at c.args.v c.args.stand.now (subst (λ w. WouldAct w c.args.t c.args.i (action.Hang c.args.o c.args.at c.args.v) c.args.stand.now) (sym c.self.view_is) c.requires.wants) c.laws.ensures (subst (λ w. MayStep w c.args.t) (sym c.self.view_is) c.requires.may)).child.root

pub hang-requires-clause-nests : goal.hang-requires-clause-nests
hang-requires-clause-nests c = (may_hang c.self.invariant c.is_kept.ensures c.args.t c.args.i c.args.o c.args.at c.args.v c.args.stand.now (subst (λ w. WouldAct w c.args.t c.args.i (action.Hang c.args.o c.args.at c.args.v) c.args.stand.now) (sym c.self.view_is) c.requires.wants) c.laws.ensures (subst (λ w. MayStep w c.args.t) (sym c.self.view_is) c.requires.may)).nests

pub hang-requires-clause-low : goal.hang-requires-clause-low
hang-requires-clause-low c = (may_hang c.self.invariant c.is_kept.ensures c.args.t c.args.i c.args.o c.args.at c.args.v c.args.stand.now (subst (λ w. WouldAct w c.args.t c.args.i (action.Hang c.args.o c.args.at c.args.v) c.args.stand.now) (sym c.self.view_is) c.requires.wants) c.laws.ensures (subst (λ w. MayStep w c.args.t) (sym c.self.view_is) c.requires.may)).low

pub hang-requires-clause-stays : goal.hang-requires-clause-stays
hang-requires-clause-stays c = (may_hang c.self.invariant c.is_kept.ensures c.args.t c.args.i c.args.o c.args.at c.args.v c.args.stand.now (subst (λ w. WouldAct w c.args.t c.args.i (action.Hang c.args.o c.args.at c.args.v) c.args.stand.now) (sym c.self.view_is) c.requires.wants) c.laws.ensures (subst (λ w. MayStep w c.args.t) (sym c.self.view_is) c.requires.may)).parent.stays

pub hang-requires-clause-child_stays : goal.hang-requires-clause-child_stays
hang-requires-clause-child_stays c = (may_hang c.self.invariant c.is_kept.ensures c.args.t c.args.i c.args.o c.args.at c.args.v c.args.stand.now (subst (λ w. WouldAct w c.args.t c.args.i (action.Hang c.args.o c.args.at c.args.v) c.args.stand.now) (sym c.self.view_is) c.requires.wants) c.laws.ensures (subst (λ w. MayStep w c.args.t) (sym c.self.view_is) c.requires.may)).child.stays

pub hang-requires-clause-within : goal.hang-requires-clause-within
hang-requires-clause-within c = (may_hang c.self.invariant c.is_kept.ensures c.args.t c.args.i c.args.o c.args.at c.args.v c.args.stand.now (subst (λ w. WouldAct w c.args.t c.args.i (action.Hang c.args.o c.args.at c.args.v) c.args.stand.now) (sym c.self.view_is) c.requires.wants) c.laws.ensures (subst (λ w. MayStep w c.args.t) (sym c.self.view_is) c.requires.may)).within

pub hang-requires-clause-empty : goal.hang-requires-clause-empty
hang-requires-clause-empty c = (may_hang c.self.invariant c.is_kept.ensures c.args.t c.args.i c.args.o c.args.at c.args.v c.args.stand.now (subst (λ w. WouldAct w c.args.t c.args.i (action.Hang c.args.o c.args.at c.args.v) c.args.stand.now) (sym c.self.view_is) c.requires.wants) c.laws.ensures (subst (λ w. MayStep w c.args.t) (sym c.self.view_is) c.requires.may)).empty

stepped : (c : goal.After-hang)
    → Stepped c.self.inside (record c.self.inside { log = c.put.new.self; heap = c.hang.new.self; stacks = c.go_on.new.stacks; threads = c.go_on.new.threads }) (entry.Hang c.args.t c.args.o c.args.at c.args.v)
stepped c =
    hang_goes c.self.invariant c.is_kept.ensures c.args.t c.args.i c.args.o c.args.at c.args.v c.args.stand.now (subst (λ w. WouldAct w c.args.t c.args.i (action.Hang c.args.o c.args.at c.args.v) c.args.stand.now) (sym c.self.view_is) c.requires.wants) c.laws.ensures (subst (λ w. MayStep w c.args.t) (sym c.self.view_is) c.requires.may)
    (record { entries = c.put.ensures.entries; spare = c.put.ensures.spare; frames = c.go_on.ensures.frames; counts = c.go_on.ensures.instances; charged = c.go_on.ensures.threads })
    c.hang.ensures

pub invariant_of-self : goal.invariant_of-self
invariant_of-self c = (stepped c).kept

pub returns : goal.returns
returns c = rw (← c.self.view_is) (stepped c).went
