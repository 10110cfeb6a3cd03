use Rattle.idl_syntax.proofs.WriteAgain.{line_again_read}
use Rattle.idl_syntax.proofs.write.write_idl_line.Goals as goal

pub returns-clause-again : goal.returns-clause-again
returns-clause-again c = line_again_read c.args.line.now _ (rw (c.new-bytes.ensures.items, c.in_ok-put_line.ensures, c.new-out.ensures) at c.in_ok-write.ensures)
