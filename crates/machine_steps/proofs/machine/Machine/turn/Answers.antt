use Rattle.std.proofs.Common.{◌<◌, length, subst, arith}
use Rattle.machine_steps.specs.Kept.{Kept}
use Rattle.machine_steps.proofs.machine.Machine.turn.Goals as goal

pub returns-in-Err : goal.returns-in-Err
returns-in-Err c = (
  c.in-Err.ensures.err.0,
  record {
    enabled = c.in-Go.ensures.0;
    short = subst (λ (w : Kept). length w.log < 262144) c.self.view_is (omega (arith, c.len.ensures, c.if-len-ge-MOST_ENTRIES.false));
  },
  c.in-Err.ensures.err.1,
)
