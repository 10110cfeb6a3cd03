use Rattle.std.proofs.Common.{◌≡◌, Some, Option, sym, subst, ap, ◌∙◌}
use Rattle.std.specs.Option.{option_copied}
use Rattle.machine_defs.specs.declared.frame.Action.TheVariants as action
use Rattle.machine_defs.specs.State.{StackFrame, top, stack}
use Rattle.machine_steps.specs.Kept.{Kept}
use Rattle.machine_steps.specs.Acting.{WouldAct}
use Rattle.machine_steps.proofs.Settling.{top_told}
use Rattle.machine_steps.proofs.machine.Machine.ret_top.Goals as goal

pub unreachable-requires : goal.unreachable-requires
unreachable-requires c =
    let would = (subst (λ (w : Kept). WouldAct w c.args.t c.args.i (action.Ret c.args.results.now) c.args.stand.now) (sym c.self.view_is) c.requires.wants) in
    let e : ◌≡◌ {A = Option StackFrame} (Some would.frame) (option_copied c.top.result) = sym would.on_top ∙ (sym (top_told c.self.inside c.args.t) ∙ sym c.top.ensures) in
    (let e' = e ∙ ap (λ x. option_copied x) c.in-None.is in cc)

pub ret-requires-clause-call : goal.ret-requires-clause-call
ret-requires-clause-call c f is =
    let here = subst (λ (w : Kept). top (stack w.state c.args.t) ≡ Some f) (sym c.self.view_is) is in
    let e : ◌≡◌ {A = Option StackFrame} (Some c.in-Some.frame.now) (Some f) = sym (ap (λ x. option_copied x) c.in-Some.is) ∙ (c.top.ensures ∙ (top_told c.self.inside c.args.t ∙ here)) in
    let same : c.in-Some.frame.now ≡ f = cc in
    ap (λ (g : StackFrame). g.call) same
