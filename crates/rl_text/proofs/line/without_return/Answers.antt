use Rattle.std.proofs.Common.{sym, arith}
use Rattle.rl_text.proofs.LineLaws.{kept_return, kept_other, kept_none}
use Rattle.rl_text.proofs.line.without_return.Goals as goal
use Rattle.rl_text.proofs.line.without_return.Goals.{else-count-gt0-via-then-count-gt0+else-line-count-eq13, else-count-gt0-via-else-count-gt0}

pub returns-then-line-count-eq13 : goal.returns-then-line-count-eq13
returns-then-line-count-eq13 c = sym (kept_return c.args.line.now c.if-count-gt0.true c.if-line-count-eq13.true)

pub returns-else-count-gt0 : goal.returns-else-count-gt0
returns-else-count-gt0 c = elim c.else-count-gt0.branch [
  | else-count-gt0-via-then-count-gt0+else-line-count-eq13 w ↦ sym (kept_other c.args.line.now w.if-count-gt0.true w.if-line-count-eq13.false)
  | else-count-gt0-via-else-count-gt0 w ↦ sym (kept_none c.args.line.now (omega arith))
]
