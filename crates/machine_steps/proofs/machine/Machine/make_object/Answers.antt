use Rattle.std.proofs.Common.{◌≡◌, ◌<◌, ◌+◌, [], Some, None, length, sym, ap, subst, ◌∙◌}
use Rattle.std.specs.Option.{option_copied}
use Rattle.machine_defs.specs.declared.values.Owner.TheVariants as owner
use Rattle.machine_defs.specs.declared.entry.Entry.TheVariants as entry
use Rattle.machine_defs.specs.declared.frame.Action.TheVariants as action
use Rattle.machine_defs.specs.declared.frame.Answer.TheVariants as answer
use Rattle.rref_heap.specs.HeapValue.{heap_objects}
use Rattle.code_machine.specs.Fitting.{Awaits, standing}
use Rattle.machine_steps.specs.Kept.{MayStep}
use Rattle.machine_steps.specs.Acting.{WouldAct, domain_in}
use Rattle.machine_steps.proofs.Stepping.{Stepped}
use Rattle.machine_steps.proofs.NewActs.{kept_ready, new_acts, new_struct, new_awaits, new_few, new_owner, new_goes}
use Rattle.machine_steps.proofs.machine.Machine.make_object.Goals as goal

pub unreachable-requires : goal.unreachable-requires
unreachable-requires c =
    let found = new_struct c.self.invariant c.args.t c.args.i c.args.ty c.args.stand.now (subst (λ w. WouldAct w c.args.t c.args.i (action.New c.args.ty) c.args.stand.now) (sym c.self.view_is) c.requires.wants) in
    let e : None ≡ Some found.0 = sym (ap option_copied c.in_default.is) ∙ (c.struct_row.ensures ∙ found.1) in
    cc

pub invariant_of-self : goal.invariant_of-self
invariant_of-self c = kept_ready c.self.invariant c.laws.ensures None c.in_err-reserve_one.ensures.err

pub go_on-requires-clause-a_client : goal.go_on-requires-clause-a_client
go_on-requires-clause-a_client c = (new_acts c.self.invariant c.args.t c.args.i c.args.ty c.args.stand.now (subst (λ w. WouldAct w c.args.t c.args.i (action.New c.args.ty) c.args.stand.now) (sym c.self.view_is) c.requires.wants)).on.client

pub go_on-requires-clause-code : goal.go_on-requires-clause-code
go_on-requires-clause-code c = (new_acts c.self.invariant c.args.t c.args.i c.args.ty c.args.stand.now (subst (λ w. WouldAct w c.args.t c.args.i (action.New c.args.ty) c.args.stand.now) (sym c.self.view_is) c.requires.wants)).code

pub go_on-requires-clause-awaits : goal.go_on-requires-clause-awaits
go_on-requires-clause-awaits c =
    let number = ap (λ n. n + 1) (c.made.ensures ∙ ap (λ h. length h.rows) c.in_ok-reserve_one.ensures.ok) in
    subst (λ o. Awaits (domain_in c.self.inside.load c.self.inside.instances c.args.i) (standing c.args.stand.now.line c.args.stand.now.registers) (answer.Made o)) (sym number)
    (new_awaits c.self.invariant c.args.t c.args.i c.args.ty c.args.stand.now (subst (λ w. WouldAct w c.args.t c.args.i (action.New c.args.ty) c.args.stand.now) (sym c.self.view_is) c.requires.wants) (subst (λ w. MayStep w c.args.t) (sym c.self.view_is) c.requires.may))

pub make-requires-clause-few : goal.make-requires-clause-few
make-requires-clause-few c =
    subst (λ h. length (heap_objects h.rows) < 65536) (sym c.in_ok-reserve_one.ensures.ok)
    (new_few c.self.invariant c.args.t c.args.i c.args.ty c.args.stand.now (subst (λ w. WouldAct w c.args.t c.args.i (action.New c.args.ty) c.args.stand.now) (sym c.self.view_is) c.requires.wants))

pub make-requires-clause-owner : goal.make-requires-clause-owner
make-requires-clause-owner c =
    subst (λ h. c.args.i < h.instances) (sym c.in_ok-reserve_one.ensures.ok)
    (new_owner c.self.invariant c.args.t c.args.i c.args.ty c.args.stand.now (subst (λ w. WouldAct w c.args.t c.args.i (action.New c.args.ty) c.args.stand.now) (sym c.self.view_is) c.requires.wants))

stepped : (c : goal.After-make)
    → Stepped c.self.inside (record c.self.inside { log = c.put.new.self; heap = c.make.new.self; stacks = c.go_on.new.stacks; threads = c.go_on.new.threads })
    (entry.New c.args.t (owner.Instance c.args.i) (length c.self.inside.heap.rows + 1) c.args.ty [])
stepped c =
    new_goes c.self.invariant c.args.t c.args.i c.args.ty c.args.stand.now (subst (λ w. WouldAct w c.args.t c.args.i (action.New c.args.ty) c.args.stand.now) (sym c.self.view_is) c.requires.wants) c.laws.ensures (subst (λ w. MayStep w c.args.t) (sym c.self.view_is) c.requires.may)
    (sym c.struct_row.ensures ∙ ap option_copied c.in-Some.is) c.in_ok-reserve_one.ensures.ok c.make.ensures.made
    (ap (λ n. n + 1) (c.made.ensures ∙ ap (λ h. length h.rows) c.in_ok-reserve_one.ensures.ok)) c.new.ensures
    (record { entries = c.put.ensures.entries; spare = c.put.ensures.spare; frames = c.go_on.ensures.frames; counts = c.go_on.ensures.instances; charged = c.go_on.ensures.threads })

pub invariant_of-self-2 : goal.invariant_of-self-2
invariant_of-self-2 c = (stepped c).kept

pub returns-clause-ok : goal.returns-clause-ok
returns-clause-ok c = rw (← c.self.view_is) (stepped c).went
