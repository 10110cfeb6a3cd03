use Rattle.std.proofs.Common.{arith}
use Rattle.idl_syntax.proofs.WriteLaws.{lines_step, lines_all}
use Rattle.idl_syntax.proofs.write.put_lines.Goals as goal

pub lines-preserved : goal.lines-preserved
lines-preserved c =
    let new = rw (c.depth_of.ensures, c.in_ok-put_line.ensures, c.clear.ensures) at c.in_ok-write_line.ensures in
    lines_step c.args.lines.now c.lines.line-index c.line-item.result _ c.lines.bytes.items _ (omega arith) c.line-item.is c.lines.invariant new

pub returns : goal.returns
returns c = lines_all c.args.lines.now c.lines.line-index _ c.lines.bytes.items (omega arith) c.lines.invariant
