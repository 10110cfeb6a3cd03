use Rattle.idl_syntax.proofs.PartAgain.{part_read_again}
use Rattle.idl_syntax.proofs.write.write_idl.Goals as goal

pub returns-clause-again : goal.returns-clause-again
returns-clause-again c = part_read_again c.args.idl.now.lines c.put_lines.new.bytes.items (rw (c.new-bytes.ensures.items, c.as_slice.ensures) at c.in_ok-put_lines.ensures)
