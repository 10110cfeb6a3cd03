use Rattle.std.proofs.Common.{◌≡◌, ℕ, ◌<◌, ◌≤◌, ◌∙◌, sym, subst, ap, length, Option, Some}
use Rattle.std.specs.Option.{option_copied}
use Rattle.machine_defs.specs.State.{StackFrame}
use Rattle.machine_defs.specs.Instructions.{Before, settle}
use Rattle.machine_defs.specs.Seen.{seen}
use Rattle.code_machine.specs.Act.{action_of}
use Rattle.code_machine.specs.Fitting.{standing}
use Rattle.machine_steps.specs.Kept.{Kept}
use Rattle.machine_steps.specs.Inside.{state_of}
use Rattle.machine_steps.specs.Acting.{WouldAct, domain_in}
use Rattle.machine_steps.specs.Sights.{seen_by_frame}
use Rattle.machine_steps.specs.Wishes.{IsLiveTop}
use Rattle.machine_steps.proofs.Settling.{stack_there, thread_there, top_told, at_rest, top_is_code, top_fits, top_would}
use Rattle.machine_steps.proofs.machine.Machine.settle_top.Goals as goal

pub unreachable-requires : goal.unreachable-requires
unreachable-requires c = thread_there c.self.invariant c.args.t (subst (λ (w : Kept). (0 < c.args.t) × (c.args.t ≤ length w.load.clients)) (sym c.self.view_is) c.requires.a_client) (sym c.thread.ensures ∙ ap (λ x. option_copied x) c.in-None.is)

pub top-requires : goal.top-requires
top-requires c = stack_there c.self.invariant c.args.t (subst (λ (w : Kept). (0 < c.args.t) × (c.args.t ≤ length w.load.clients)) (sym c.self.view_is) c.requires.a_client)

pub copy_stand-requires : goal.copy_stand-requires
copy_stand-requires c = top_is_code c.self.invariant c.args.t c.args.i (subst (λ (w : Kept). IsLiveTop w c.args.t c.args.i) (sym c.self.view_is) c.requires.lives) c.in-Some-top.frame.now
    (sym (top_told c.self.inside c.args.t) ∙ (sym c.top.ensures ∙ ap (λ x. option_copied x) c.in-Some-top.is))

pub unreachable-requires-in-None-top : goal.unreachable-requires-in-None-top
unreachable-requires-in-None-top c =
    let on = subst (λ (w : Kept). IsLiveTop w c.args.t c.args.i) (sym c.self.view_is) c.requires.lives in
    let e : ◌≡◌ {A = Option StackFrame} (Some on.frame) (option_copied c.top.result) = sym on.on_top ∙ (sym (top_told c.self.inside c.args.t) ∙ sym c.top.ensures) in
    (let e' = e ∙ ap (λ x. option_copied x) c.in-None-top.is in cc)

pub settle_stand-requires-clause-rest : goal.settle_stand-requires-clause-rest
settle_stand-requires-clause-rest c = at_rest c.self.invariant c.is_kept.ensures

pub settle_stand-requires-clause-fits : goal.settle_stand-requires-clause-fits
settle_stand-requires-clause-fits c =
    top_fits c.self.invariant c.args.t c.args.i (subst (λ (w : Kept). IsLiveTop w c.args.t c.args.i) (sym c.self.view_is) c.requires.lives)
    c.copy_stand.new.stand.line c.copy_stand.new.stand.registers c.in-Some-top.frame.now
    (sym (top_told c.self.inside c.args.t) ∙ (sym c.top.ensures ∙ ap (λ x. option_copied x) c.in-Some-top.is)) c.copy_stand.ensures.stand

pub returns : goal.returns
returns c =
    let w = c.self.inside in
    subst (λ (w : Kept). WouldAct w c.args.t c.args.i (action_of c.settle_stand.result) c.settle_stand.new.stand) c.self.view_is
    (top_would c.self.invariant c.args.t c.args.i (subst (λ (w : Kept). IsLiveTop w c.args.t c.args.i) (sym c.self.view_is) c.requires.lives)
    c.copy_stand.new.stand.line c.copy_stand.new.stand.registers c.in-Some-top.frame.now
    (sym (top_told c.self.inside c.args.t) ∙ (sym c.top.ensures ∙ ap (λ x. option_copied x) c.in-Some-top.is)) c.copy_stand.ensures.stand
    c.in-Some.thread.now (sym c.thread.ensures ∙ ap (λ x. option_copied x) c.in-Some.is) (action_of c.settle_stand.result) c.settle_stand.new.stand
    (subst (λ (n : ℕ). settle (domain_in w.load w.instances c.args.i) (seen w.load (seen_by_frame w.instances w.heap.rows) c.args.i) (length (state_of w).objects) n (standing c.copy_stand.new.stand.line c.copy_stand.new.stand.registers)
    ≡ Before (action_of c.settle_stand.result) c.settle_stand.new.stand.fuel (standing c.settle_stand.new.stand.line c.settle_stand.new.stand.registers)) (c.copy_stand.ensures.fuel ∙ c.fuel-stand.ensures) c.settle_stand.ensures))
