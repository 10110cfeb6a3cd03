use Rattle.std.proofs.Common.{rules}
use Rattle.rl_io.proofs.in_memory.MemSinkSink.give.Goals as goal
use Rattle.rl_io.proofs.in_memory.MemSinkSink.give.Goals.{then-takes_nothing-via-then-takes_nothing, then-takes_nothing-via-else-takes_nothing+then-contains, then-count-eq0, else-count-eq0}

pub returns-then-takes_nothing-clause-failing : goal.returns-then-takes_nothing-clause-failing
returns-then-takes_nothing-clause-failing c =
    elim c.then-takes_nothing.branch [
      | then-takes_nothing-via-then-takes_nothing w ↦
          elim c.if-count-eq0.branch [ then-count-eq0 v ↦ search rules | else-count-eq0 v ↦ search rules ]
      | then-takes_nothing-via-else-takes_nothing+then-contains w ↦ search rules
    ]
