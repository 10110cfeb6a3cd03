use Rattle.std.proofs.Common.{arith}
use Rattle.exchangeable_types.proofs.Counting.{times_step}
use Rattle.exchangeable_types.proofs.types.times.Goals as goal

pub wraps-preserved : goal.wraps-preserved
wraps-preserved c = record {
  few = omega (arith, c.min-times.ensures);
  rest = times_step c.args.wraps.now c.wraps.wrap-index c.wraps.times c.min-times.result c.repeats.result _ _ c.wraps-test.true c.repeats.ensures.value c.min-times.ensures c.wraps.invariant.rest;
}
