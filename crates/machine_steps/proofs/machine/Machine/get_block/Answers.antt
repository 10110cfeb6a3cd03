use Rattle.std.proofs.Common.{sym, subst}
use Rattle.machine_defs.specs.declared.entry.Entry.TheVariants as entry
use Rattle.machine_defs.specs.declared.frame.Action.TheVariants as action
use Rattle.machine_defs.specs.declared.frame.Answer.TheVariants as answer
use Rattle.machine_steps.specs.Kept.{MayStep}
use Rattle.machine_steps.specs.Acting.{WouldAct}
use Rattle.machine_steps.proofs.Stepping.{Stepped}
use Rattle.machine_steps.proofs.Acting.{awaits}
use Rattle.machine_steps.proofs.BlockActs.{devget_acts, devget_root, devget_size, devget_goes}
use Rattle.machine_steps.proofs.machine.Machine.get_block.Goals as goal

pub go_on-requires-clause-code : goal.go_on-requires-clause-code
go_on-requires-clause-code c = (devget_acts c.self.invariant c.is_kept.ensures c.args.t c.args.i c.args.o c.args.b c.args.stand.now (subst (λ w. WouldAct w c.args.t c.args.i (action.DevGet c.args.o c.args.b) c.args.stand.now) (sym c.self.view_is) c.requires.wants)).code

pub go_on-requires-clause-awaits : goal.go_on-requires-clause-awaits
go_on-requires-clause-awaits c =
    let acts = devget_acts c.self.invariant c.is_kept.ensures c.args.t c.args.i c.args.o c.args.b c.args.stand.now (subst (λ w. WouldAct w c.args.t c.args.i (action.DevGet c.args.o c.args.b) c.args.stand.now) (sym c.self.view_is) c.requires.wants) in
    awaits acts answer.Went acts.can.1

pub fill-requires-clause-there : goal.fill-requires-clause-there
fill-requires-clause-there c =
    (devget_root c.self.invariant c.is_kept.ensures c.args.t c.args.i c.args.o c.args.b c.args.stand.now (subst (λ w. WouldAct w c.args.t c.args.i (action.DevGet c.args.o c.args.b) c.args.stand.now) (sym c.self.view_is) c.requires.wants)
    c.laws.ensures (subst (λ w. MayStep w c.args.t) (sym c.self.view_is) c.requires.may)).1.there

pub fill-requires-clause-whole : goal.fill-requires-clause-whole
fill-requires-clause-whole c =
    devget_size c.self.invariant c.is_kept.ensures c.args.t c.args.i c.args.o c.args.b c.args.stand.now (subst (λ w. WouldAct w c.args.t c.args.i (action.DevGet c.args.o c.args.b) c.args.stand.now) (sym c.self.view_is) c.requires.wants)
    c.laws.ensures (subst (λ w. MayStep w c.args.t) (sym c.self.view_is) c.requires.may) c.block.ensures

stepped : (c : goal.After-fill)
    → Stepped c.self.inside (record c.self.inside { log = c.put.new.self; heap = c.fill.new.self; stacks = c.go_on.new.stacks; threads = c.go_on.new.threads }) (entry.DevGet c.args.t c.args.o c.args.b)
stepped c =
    devget_goes c.self.invariant c.is_kept.ensures c.args.t c.args.i c.args.o c.args.b c.args.stand.now (subst (λ w. WouldAct w c.args.t c.args.i (action.DevGet c.args.o c.args.b) c.args.stand.now) (sym c.self.view_is) c.requires.wants)
    c.laws.ensures (subst (λ w. MayStep w c.args.t) (sym c.self.view_is) c.requires.may)
    (record { entries = c.put.ensures.entries; spare = c.put.ensures.spare; frames = c.go_on.ensures.frames; counts = c.go_on.ensures.instances; charged = c.go_on.ensures.threads })
    c.block.ensures c.fill.ensures

pub invariant_of-self : goal.invariant_of-self
invariant_of-self c = (stepped c).kept

pub returns : goal.returns
returns c = rw (← c.self.view_is) (stepped c).went
