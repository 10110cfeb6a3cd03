use Rattle.std.proofs.Common.{sym, subst}
use Rattle.machine_defs.specs.declared.entry.Entry.TheVariants as entry
use Rattle.machine_defs.specs.declared.frame.Action.TheVariants as action
use Rattle.machine_defs.specs.declared.frame.Answer.TheVariants as answer
use Rattle.machine_steps.specs.Kept.{MayStep}
use Rattle.machine_steps.specs.Acting.{WouldAct}
use Rattle.machine_steps.proofs.Stepping.{Stepped}
use Rattle.machine_steps.proofs.Acting.{awaits}
use Rattle.machine_steps.proofs.DropActs.{drop_acts, may_drop, drop_logs, drop_goes}
use Rattle.machine_steps.proofs.machine.Machine.drop_object.Goals as goal

pub go_on-requires-clause-code : goal.go_on-requires-clause-code
go_on-requires-clause-code c = (drop_acts c.self.invariant c.is_kept.ensures c.args.t c.args.i c.args.o c.args.stand.now (subst (λ w. WouldAct w c.args.t c.args.i (action.Drop c.args.o) c.args.stand.now) (sym c.self.view_is) c.requires.wants)).code

pub go_on-requires-clause-awaits : goal.go_on-requires-clause-awaits
go_on-requires-clause-awaits c =
    let acts = drop_acts c.self.invariant c.is_kept.ensures c.args.t c.args.i c.args.o c.args.stand.now (subst (λ w. WouldAct w c.args.t c.args.i (action.Drop c.args.o) c.args.stand.now) (sym c.self.view_is) c.requires.wants) in
    awaits acts answer.Went acts.can

pub drop_object-requires-clause-root : goal.drop_object-requires-clause-root
drop_object-requires-clause-root c = (may_drop c.self.invariant c.is_kept.ensures c.args.t c.args.i c.args.o c.args.stand.now (subst (λ w. WouldAct w c.args.t c.args.i (action.Drop c.args.o) c.args.stand.now) (sym c.self.view_is) c.requires.wants) c.laws.ensures (subst (λ w. MayStep w c.args.t) (sym c.self.view_is) c.requires.may)).root.root

pub drop_object-requires-clause-unlent : goal.drop_object-requires-clause-unlent
drop_object-requires-clause-unlent c = (may_drop c.self.invariant c.is_kept.ensures c.args.t c.args.i c.args.o c.args.stand.now (subst (λ w. WouldAct w c.args.t c.args.i (action.Drop c.args.o) c.args.stand.now) (sym c.self.view_is) c.requires.wants) c.laws.ensures (subst (λ w. MayStep w c.args.t) (sym c.self.view_is) c.requires.may)).unlent

pub drop_object-requires-clause-stays : goal.drop_object-requires-clause-stays
drop_object-requires-clause-stays c = (may_drop c.self.invariant c.is_kept.ensures c.args.t c.args.i c.args.o c.args.stand.now (subst (λ w. WouldAct w c.args.t c.args.i (action.Drop c.args.o) c.args.stand.now) (sym c.self.view_is) c.requires.wants) c.laws.ensures (subst (λ w. MayStep w c.args.t) (sym c.self.view_is) c.requires.may)).root.stays

pub sweep-requires : goal.sweep-requires
sweep-requires c = drop_logs c.self.invariant c.is_kept.ensures c.args.t c.args.i c.args.o c.args.stand.now (subst (λ w. WouldAct w c.args.t c.args.i (action.Drop c.args.o) c.args.stand.now) (sym c.self.view_is) c.requires.wants) c.laws.ensures (subst (λ w. MayStep w c.args.t) (sym c.self.view_is) c.requires.may) c.drop_object.ensures c.put.ensures.spare

stepped : (c : goal.After-sweep)
    → Stepped c.self.inside (record c.self.inside { log = c.sweep.new.log; heap = c.sweep.new.self; stacks = c.go_on.new.stacks; threads = c.go_on.new.threads }) (entry.Drop c.args.t c.args.o)
stepped c =
    drop_goes c.self.invariant c.is_kept.ensures c.args.t c.args.i c.args.o c.args.stand.now (subst (λ w. WouldAct w c.args.t c.args.i (action.Drop c.args.o) c.args.stand.now) (sym c.self.view_is) c.requires.wants) c.laws.ensures (subst (λ w. MayStep w c.args.t) (sym c.self.view_is) c.requires.may)
    (record { entries = c.put.ensures.entries; spare = c.put.ensures.spare; frames = c.go_on.ensures.frames; counts = c.go_on.ensures.instances; charged = c.go_on.ensures.threads })
    c.drop_object.ensures c.sweep.ensures.rows c.sweep.ensures.log c.sweep.ensures.spare

pub invariant_of-self : goal.invariant_of-self
invariant_of-self c = (stepped c).kept

pub returns : goal.returns
returns c = rw (← c.self.view_is) (stepped c).went
