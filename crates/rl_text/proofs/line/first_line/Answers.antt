use Rattle.std.proofs.Common.{arith}
use Rattle.rl_text.proofs.LineLaws.{cut_last, cut_fed}
use Rattle.rl_text.proofs.line.first_line.Goals as goal

pub returns-then-feed-rest : goal.returns-then-feed-rest
returns-then-feed-rest c = cut_last c.args.rest.now c.content-feed.result c.requires c.content-feed.ensures.count c.if-feed-rest.true

pub returns : goal.returns
returns c = cut_fed c.args.rest.now c.split_at.result.0.now c.content-feed.result c.without_return.result c.content-feed.ensures.count (omega arith) c.split_at.ensures.front c.without_return.ensures
