use Rattle.std.proofs.Common.{◌≡◌, sym, ◌∙◌, ap, subst, arith, is_some, true}
use Rattle.machine_defs.specs.Calling.{is_taken}
use Rattle.proxies.specs.Crossing.{seen_by_proxy, IsHolder}
use Rattle.proxies.proofs.Opens.{not_deep, meets_none}
use Rattle.proxies.proofs.crossing.crossing_of.Goals as goal

pub returns-in-Some : goal.returns-in-Some
returns-in-Some g c =
    let into = c.current-current.ensures in
    let deep = not_deep c.args.instances.now c.args.stacks.now.frames c.args.shadows.now c.args.t (omega (arith, c.depth.ensures.value)) in
    record {
      meets = meets_none c.args.load.now (seen_by_proxy c.args.instances.now c.args.stacks.now.frames c.args.shadows.now) c.args.t c.args.target c.current-current.result into (sym c.is_live-lives.ensures ∙ c.if-not-lives-2.false) deep (sym (c.breaks_order.ensures c.args.shadows.now) ∙ c.if-breaks_order.false);
      taken = subst (λ i. is_taken c.args.load.now (seen_by_proxy c.args.instances.now c.args.stacks.now.frames c.args.shadows.now) c.args.t i ≡ true) into (sym (c.holder.ensures.taken c.args.shadows.now) ∙ ap is_some c.in-Some.is);
      holder = subst (λ i. IsHolder (seen_by_proxy c.args.instances.now c.args.stacks.now.frames c.args.shadows.now) c.args.t i c.in-Some.client) into (c.holder.ensures.holder c.args.shadows.now c.in-Some.client c.in-Some.is);
    }

pub returns-in-None : goal.returns-in-None
returns-in-None g c =
    let into = c.current-current.ensures in
    let deep = not_deep c.args.instances.now c.args.stacks.now.frames c.args.shadows.now c.args.t (omega (arith, c.depth.ensures.value)) in
    record {
      meets = meets_none c.args.load.now (seen_by_proxy c.args.instances.now c.args.stacks.now.frames c.args.shadows.now) c.args.t c.args.target c.current-current.result into (sym c.is_live-lives.ensures ∙ c.if-not-lives-2.false) deep (sym (c.breaks_order.ensures c.args.shadows.now) ∙ c.if-breaks_order.false);
      into = into;
      free = sym (c.holder.ensures.taken c.args.shadows.now) ∙ ap is_some c.in-None.is;
    }
