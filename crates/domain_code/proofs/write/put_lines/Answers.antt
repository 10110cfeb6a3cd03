use Rattle.std.proofs.Common.{arith}
use Rattle.domain_code.proofs.WriteLaws.{lines_step, lines_all}
use Rattle.domain_code.proofs.write.put_lines.Goals as goal

pub lines-preserved : goal.lines-preserved
lines-preserved c =
    let new = rw (c.depth_of.ensures, c.in_ok-put_line.ensures, c.clear.ensures) at c.in_ok-write_line.ensures in
    rw c.depth_behind-open_blocks.ensures (lines_step c.args.lines.now c.lines.line-index c.lines.open_blocks c.line-item.result _ c.lines.bytes.items _ (omega arith) c.line-item.is c.lines.invariant new)

pub returns : goal.returns
returns c = lines_all c.args.lines.now c.lines.line-index c.lines.open_blocks _ c.lines.bytes.items (omega arith) c.lines.invariant
