use Rattle.std.proofs.Common.{refl, sym, ◌∙◌, ap, arith, []}
use Rattle.std.specs.Option.{option_copied}
use Rattle.machine_defs.specs.Calling.{outranks}
use Rattle.trampolines.specs.Words.{stack_of}
use Rattle.proxies.specs.Crossing.{seen_by_proxy}
use Rattle.proxies.proofs.Orders.{any_found, any_passed, order_is, frame_is_there}
use Rattle.proxies.proofs.crossing.breaks_order.Goals as goal

pub returns-then-outranks : goal.returns-then-outranks
returns-then-outranks g c shadows =
    let here = sym c.frame_at.ensures ∙ ap option_copied c.in-Some.is in
    let test = sym c.if-outranks.true ∙ c.outranks.ensures (seen_by_proxy c.args.instances.now c.args.stacks.now.frames []) c.in-Some.frame.now refl refl in
    order_is c.args.load.now c.args.instances.now c.args.stacks.now.frames shadows c.args.t c.args.target c.load_of-rank.result _ c.load_of-rank.ensures (sym c.is_serial.ensures ∙ c.if-not-is_serial.false)
    (any_found (outranks c.args.load.now (seen_by_proxy c.args.instances.now c.args.stacks.now.frames []) c.load_of-rank.result) (stack_of c.args.stacks.now.frames c.args.t) c.frames.place c.in-Some.frame.now here test c.frames.invariant)

pub unreachable-requires : goal.unreachable-requires
unreachable-requires g c = frame_is_there (stack_of c.args.stacks.now.frames c.args.t) c.frames.place (let d = c.depth-count.ensures in omega arith) (sym c.frame_at.ensures ∙ ap option_copied c.in-None.is)

pub frames-preserved : goal.frames-preserved
frames-preserved g c =
    let here = sym c.frame_at.ensures ∙ ap option_copied c.in-Some.is in
    let test = sym c.if-outranks.false ∙ c.outranks.ensures (seen_by_proxy c.args.instances.now c.args.stacks.now.frames []) c.in-Some.frame.now refl refl in
    any_passed (outranks c.args.load.now (seen_by_proxy c.args.instances.now c.args.stacks.now.frames []) c.load_of-rank.result) (stack_of c.args.stacks.now.frames c.args.t) c.frames.place c.in-Some.frame.now here test c.frames.invariant
