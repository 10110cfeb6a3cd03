use Rattle.std.proofs.Common.{arith}
use Rattle.rl_text.proofs.RenderLaws.{rest_more, rest_all}
use Rattle.rl_text.proofs.render.put_rest.Goals as goal

pub tokens-preserved : goal.tokens-preserved
tokens-preserved c = rest_more _ c.tokens.out.items c.put_behind.new.out.items c.tokens.last.now c.next-item.result c.args.rest.now c.tokens.next-index (omega arith) c.next-item.is c.tokens.invariant c.in_ok-put_behind.ensures

pub returns : goal.returns
returns c = rest_all _ c.tokens.out.items c.tokens.last.now c.args.rest.now c.tokens.next-index (omega arith) c.tokens.invariant
