use Rattle.std.proofs.Common.{◌≡◌, ◌∙◌, ◌++◌, List, ℕ, true, ap, refl, arith}
use Rattle.turn_order.proofs.Naming.{put_more, leave_out}
use Rattle.turn_order.proofs.order.put_others.Goals as goal

pub others-preserved-then-named-place : goal.others-preserved-then-named-place
others-preserved-then-named-place c =
    leave_out c.args.named c.args.clients.now.items c.others.clients.items c.others.place c.if-named-place.true c.others.invariant

pub others-preserved : goal.others-preserved
others-preserved c =
    c.in_ok-push.ensures.items ∙ put_more c.args.named c.args.clients.now.items c.others.clients.items c.others.place c.if-named-place.false c.others.invariant
