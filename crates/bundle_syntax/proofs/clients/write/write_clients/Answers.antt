use Rattle.bundle_syntax.proofs.WriteAgain.{clients_again, clients_accepted}
use Rattle.bundle_syntax.proofs.clients.write.write_clients.Goals as goal

pub returns-clause-again : goal.returns-clause-again
returns-clause-again c = clients_again c.args.clients.now.lines c.put_lines.new.bytes.items (rw (c.new-bytes.ensures.items, c.as_slice.ensures) at c.in_ok-put_lines.ensures)

pub returns-clause-accepted : goal.returns-clause-accepted
returns-clause-accepted c = clients_accepted c.args.clients.now.lines c.put_lines.new.bytes.items (rw (c.new-bytes.ensures.items, c.as_slice.ensures) at c.in_ok-put_lines.ensures)
