use Rattle.std.proofs.Common.{sym}
use Rattle.rl_text.proofs.LineLaws.{feed_none, feed_some}
use Rattle.rl_text.proofs.line.content.Goals as goal

pub returns-in-Some-clause-count : goal.returns-in-Some-clause-count
returns-in-Some-clause-count c = sym (feed_some c.args.rest.now c.in-Some.feed c.in-Some.ensures.0 c.in-Some.ensures.1)

pub returns-in-None-clause-count : goal.returns-in-None-clause-count
returns-in-None-clause-count c = sym (feed_none c.args.rest.now c.in-None.ensures)
