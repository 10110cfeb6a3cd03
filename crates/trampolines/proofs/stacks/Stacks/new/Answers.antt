use Rattle.std.proofs.Common.{◌≡◌, ◌∙◌, ◌<◌, ◌^◌, [], replicate, ap, arith}
use Rattle.trampolines.proofs.Counting.{laid_none, made_none}
use Rattle.trampolines.proofs.stacks.Stacks.new.Goals as goal

pub invariant_of-result : goal.invariant_of-result
invariant_of-result g c =
    laid_none c.args.instances c.clients.counter _ _ (omega arith)
    (made_none c.args.instances _ _ _ c.new-counts.ensures.items c.new-counts.ensures.len c.in_ok-resize.ensures.items) c.clients.invariant
