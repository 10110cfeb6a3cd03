use Rattle.std.proofs.Common.{◌≡◌, sym, ◌∙◌, ap, subst, is_some, true}
use Rattle.std.specs.Option.{option_copied}
use Rattle.machine_defs.specs.State.{StackFrame}
use Rattle.machine_defs.specs.Calling.{is_taken}
use Rattle.trampolines.specs.Words.{stack_of}
use Rattle.proxies.specs.Crossing.{seen_by_proxy, IsHolder}
use Rattle.proxies.specs.Reentry.{WaitsToReenter, Reenters}
use Rattle.proxies.proofs.Orders.{top_is_there}
use Rattle.proxies.proofs.Opens.{same_frame, reenters}
use Rattle.proxies.proofs.reentry.reentry_of.Goals as goal

pub unreachable-requires : goal.unreachable-requires
unreachable-requires g c = top_is_there (stack_of c.args.stacks.now.frames c.args.t) c.requires.a_frame (sym c.top.ensures ∙ ap option_copied c.in-None.is)

pub returns-in-Some-holder : goal.returns-in-Some-holder
returns-in-Some-holder g c f top =
    let same = same_frame c.args.stacks.now.frames c.args.t c.in-Some.frame.now f (sym c.top.ensures ∙ ap option_copied c.in-Some.is) top in
    let into = c.current-current.ensures in
    subst (λ (x : StackFrame). WaitsToReenter c.args.load.now (seen_by_proxy c.args.instances.now c.args.stacks.now.frames c.args.shadows.now) c.args.t x c.in-Some-holder.client) same (record {
      meets = reenters c.args.load.now (seen_by_proxy c.args.instances.now c.args.stacks.now.frames c.args.shadows.now) c.in-Some.frame.now c.current-current.result (sym c.is_reissuable.ensures ∙ c.if-not-is_reissuable.false) into (sym c.is_live-lives.ensures ∙ c.if-not-lives.false);
      taken = subst (λ i. is_taken c.args.load.now (seen_by_proxy c.args.instances.now c.args.stacks.now.frames c.args.shadows.now) c.args.t i ≡ true) into (sym (c.holder.ensures.taken c.args.shadows.now) ∙ ap is_some c.in-Some-holder.is);
      holder = subst (λ i. IsHolder (seen_by_proxy c.args.instances.now c.args.stacks.now.frames c.args.shadows.now) c.args.t i c.in-Some-holder.client) into (c.holder.ensures.holder c.args.shadows.now c.in-Some-holder.client c.in-Some-holder.is);
    })

pub returns-in-None-holder : goal.returns-in-None-holder
returns-in-None-holder g c f top =
    let same = same_frame c.args.stacks.now.frames c.args.t c.in-Some.frame.now f (sym c.top.ensures ∙ ap option_copied c.in-Some.is) top in
    let into = c.current-current.ensures in
    subst (λ (x : StackFrame). Reenters c.args.load.now (seen_by_proxy c.args.instances.now c.args.stacks.now.frames c.args.shadows.now) c.args.t x c.current-current.result) same (record {
      meets = reenters c.args.load.now (seen_by_proxy c.args.instances.now c.args.stacks.now.frames c.args.shadows.now) c.in-Some.frame.now c.current-current.result (sym c.is_reissuable.ensures ∙ c.if-not-is_reissuable.false) into (sym c.is_live-lives.ensures ∙ c.if-not-lives.false);
      into = into;
      free = sym (c.holder.ensures.taken c.args.shadows.now) ∙ ap is_some c.in-None-holder.is;
    })
