use Rattle.std.proofs.Common.{arith}
use Rattle.rl_text.proofs.ListPlaces.{line_here}
use Rattle.bundle_format.proofs.Weaving.{weaves_nothing, weaves_on, weaves_all}
use Rattle.bundle_format.proofs.weave.weave.Goals as goal

pub lines-init : goal.lines-init
lines-init c = rw c.new-out.ensures.items (weaves_nothing _ c.args.bytes.now c.args.lines.now)

pub put_line-requires : goal.put_line-requires
put_line-requires c = (line_here _ _ c.args.lines.now c.lines.line-index c.requires (omega arith)).within

pub lines-preserved : goal.lines-preserved
lines-preserved c = weaves_on _ _ _ _ c.args.bytes.now c.args.lines.now c.lines.line-index c.lines.out.items _ (omega arith) c.lines.invariant c.in_ok-put_line.ensures

pub returns : goal.returns
returns c = weaves_all _ _ _ c.args.bytes.now c.args.lines.now c.lines.line-index c.lines.out.items (omega arith) c.lines.invariant
