use Rattle.std.proofs.Common.{sym, subst}
use Rattle.machine_defs.specs.declared.entry.Entry.TheVariants as entry
use Rattle.machine_defs.specs.declared.frame.Action.TheVariants as action
use Rattle.machine_defs.specs.declared.frame.Answer.TheVariants as answer
use Rattle.machine_steps.specs.Kept.{MayStep}
use Rattle.machine_steps.specs.Acting.{WouldAct}
use Rattle.machine_steps.proofs.Stepping.{Stepped}
use Rattle.machine_steps.proofs.Acting.{awaits}
use Rattle.machine_steps.proofs.BlockActs.{devput_acts, devput_root, devput_size, devput_goes}
use Rattle.machine_steps.proofs.machine.Machine.put_block.Goals as goal

pub go_on-requires-clause-code : goal.go_on-requires-clause-code
go_on-requires-clause-code c = (devput_acts c.self.invariant c.is_kept.ensures c.args.t c.args.i c.args.b c.args.o c.args.stand.now (subst (λ w. WouldAct w c.args.t c.args.i (action.DevPut c.args.b c.args.o) c.args.stand.now) (sym c.self.view_is) c.requires.wants)).code

pub go_on-requires-clause-awaits : goal.go_on-requires-clause-awaits
go_on-requires-clause-awaits c =
    let acts = devput_acts c.self.invariant c.is_kept.ensures c.args.t c.args.i c.args.b c.args.o c.args.stand.now (subst (λ w. WouldAct w c.args.t c.args.i (action.DevPut c.args.b c.args.o) c.args.stand.now) (sym c.self.view_is) c.requires.wants) in
    awaits acts answer.Went acts.can.1

pub cells-requires : goal.cells-requires
cells-requires c =
    (devput_root c.self.invariant c.is_kept.ensures c.args.t c.args.i c.args.b c.args.o c.args.stand.now (subst (λ w. WouldAct w c.args.t c.args.i (action.DevPut c.args.b c.args.o) c.args.stand.now) (sym c.self.view_is) c.requires.wants)
    c.laws.ensures (subst (λ w. MayStep w c.args.t) (sym c.self.view_is) c.requires.may)).1.there

pub set-requires : goal.set-requires
set-requires c =
    devput_size c.self.invariant c.is_kept.ensures c.args.t c.args.i c.args.b c.args.o c.args.stand.now (subst (λ w. WouldAct w c.args.t c.args.i (action.DevPut c.args.b c.args.o) c.args.stand.now) (sym c.self.view_is) c.requires.wants)
    c.laws.ensures (subst (λ w. MayStep w c.args.t) (sym c.self.view_is) c.requires.may) c.cells.ensures

stepped : (c : goal.After-set)
    → Stepped c.self.inside (record c.self.inside { log = c.put.new.self; stacks = c.go_on.new.stacks; threads = c.go_on.new.threads; blocks = c.set.new.self }) (entry.DevPut c.args.t c.args.b c.args.o)
stepped c =
    devput_goes c.self.invariant c.is_kept.ensures c.args.t c.args.i c.args.b c.args.o c.args.stand.now (subst (λ w. WouldAct w c.args.t c.args.i (action.DevPut c.args.b c.args.o) c.args.stand.now) (sym c.self.view_is) c.requires.wants)
    c.laws.ensures (subst (λ w. MayStep w c.args.t) (sym c.self.view_is) c.requires.may)
    (record { entries = c.put.ensures.entries; spare = c.put.ensures.spare; frames = c.go_on.ensures.frames; counts = c.go_on.ensures.instances; charged = c.go_on.ensures.threads })
    c.cells.ensures c.set.ensures

pub invariant_of-self : goal.invariant_of-self
invariant_of-self c = (stepped c).kept

pub returns : goal.returns
returns c = rw (← c.self.view_is) (stepped c).went
