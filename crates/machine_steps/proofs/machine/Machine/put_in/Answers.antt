use Rattle.std.proofs.Common.{sym, subst}
use Rattle.machine_defs.specs.declared.entry.Entry.TheVariants as entry
use Rattle.machine_defs.specs.declared.frame.Action.TheVariants as action
use Rattle.machine_defs.specs.declared.frame.Answer.TheVariants as answer
use Rattle.machine_defs.specs.ObjectRows.{IsSlot}
use Rattle.machine_steps.specs.Kept.{MayStep}
use Rattle.machine_steps.specs.Inside.{state_of}
use Rattle.machine_steps.specs.Acting.{WouldAct}
use Rattle.machine_steps.proofs.Stepping.{Stepped}
use Rattle.machine_steps.proofs.Acting.{awaits}
use Rattle.machine_steps.proofs.SlotActs.{put_acts, put_named, put_some, put_goes}
use Rattle.machine_steps.proofs.machine.Machine.put_in.Goals as goal

pub unreachable-requires : goal.unreachable-requires
unreachable-requires c = put_some c.self.invariant c.args.t c.args.i c.args.slot c.args.o c.args.stand.now (subst (λ w. WouldAct w c.args.t c.args.i (action.Put c.args.slot c.args.o) c.args.stand.now) (sym c.self.view_is) c.requires.wants) c.slot_named.ensures c.in_default.is

pub go_on-requires-clause-a_client : goal.go_on-requires-clause-a_client
go_on-requires-clause-a_client c = (put_acts c.self.invariant c.args.t c.args.i c.args.slot c.args.o c.args.stand.now (subst (λ w. WouldAct w c.args.t c.args.i (action.Put c.args.slot c.args.o) c.args.stand.now) (sym c.self.view_is) c.requires.wants)).on.client

pub go_on-requires-clause-code : goal.go_on-requires-clause-code
go_on-requires-clause-code c = (put_acts c.self.invariant c.args.t c.args.i c.args.slot c.args.o c.args.stand.now (subst (λ w. WouldAct w c.args.t c.args.i (action.Put c.args.slot c.args.o) c.args.stand.now) (sym c.self.view_is) c.requires.wants)).code

pub go_on-requires-clause-awaits : goal.go_on-requires-clause-awaits
go_on-requires-clause-awaits c =
    let acts = put_acts c.self.invariant c.args.t c.args.i c.args.slot c.args.o c.args.stand.now (subst (λ w. WouldAct w c.args.t c.args.i (action.Put c.args.slot c.args.o) c.args.stand.now) (sym c.self.view_is) c.requires.wants) in
    awaits acts answer.Went acts.can.2

named : (c : goal.After-set_slot) → IsSlot c.self.inside.load (state_of c.self.inside) c.args.i c.args.slot c.in-Some.name
named c = put_named c.self.invariant c.args.t c.args.i c.args.slot c.args.o c.args.stand.now (subst (λ w. WouldAct w c.args.t c.args.i (action.Put c.args.slot c.args.o) c.args.stand.now) (sym c.self.view_is) c.requires.wants) c.slot_named.ensures c.in-Some.is

stepped : (c : goal.After-set_slot)
    → Stepped c.self.inside (record c.self.inside { log = c.put.new.self; instances = c.set_slot.new.self; stacks = c.go_on.new.stacks; threads = c.go_on.new.threads }) (entry.Put c.args.t c.args.i c.in-Some.name c.args.o)
stepped c =
    put_goes c.self.invariant c.args.t c.args.i c.args.slot c.args.o c.args.stand.now (subst (λ w. WouldAct w c.args.t c.args.i (action.Put c.args.slot c.args.o) c.args.stand.now) (sym c.self.view_is) c.requires.wants)
    c.laws.ensures (subst (λ w. MayStep w c.args.t) (sym c.self.view_is) c.requires.may) c.in-Some.name (named c)
    (record { entries = c.put.ensures.entries; spare = c.put.ensures.spare; frames = c.go_on.ensures.frames; counts = c.go_on.ensures.instances; charged = c.go_on.ensures.threads })
    c.set_slot.ensures

pub invariant_of-self : goal.invariant_of-self
invariant_of-self c = (stepped c).kept

pub returns : goal.returns
returns c = rw (← c.self.view_is) (c.in-Some.name, named c, (stepped c).went)
