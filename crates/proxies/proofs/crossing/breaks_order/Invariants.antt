use Rattle.std.proofs.Common.{◌≡◌, [], drop}
use Rattle.std.specs.List.{list_any}
use Rattle.machine_defs.specs.Calling.{outranks}
use Rattle.trampolines.specs.Words.{stack_of}
use Rattle.proxies.specs.Crossing.{seen_by_proxy}
use Rattle.proxies.proofs.crossing.breaks_order.Given as goal

abbrev pub invariant-frames : goal.invariant-frames
invariant-frames g l =
    list_any (outranks l.load (seen_by_proxy l.instances l.stacks.frames []) l.rank) (drop l.place (stack_of l.stacks.frames l.t))
    ≡ list_any (outranks l.load (seen_by_proxy l.instances l.stacks.frames []) l.rank) (stack_of l.stacks.frames l.t)
