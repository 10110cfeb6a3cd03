use Rattle.std.proofs.Common.{arith}
use Rattle.bundle_syntax.proofs.WriteLaws.{lines_step, lines_all}
use Rattle.bundle_syntax.proofs.written.put_lines.Goals as goal

pub lines-preserved : goal.lines-preserved
lines-preserved g c =
    let new = rw (c.depth.ensures, c.in_ok-put.ensures, c.clear.ensures) at c.in_ok-write_line.ensures in
    lines_step g.F.Written.depth_of g.F.Written.spell c.args.lines.now c.lines.line-index c.line-item.result _ c.lines.bytes.items _ (omega arith) c.line-item.is c.lines.invariant new

pub returns : goal.returns
returns g c = lines_all g.F.Written.depth_of g.F.Written.spell c.args.lines.now c.lines.line-index _ c.lines.bytes.items (omega arith) c.lines.invariant
