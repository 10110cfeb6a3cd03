use Rattle.domain_code.proofs.WriteAgain.{read_again, domain_again}
use Rattle.domain_code.proofs.write.write_domain.Goals as goal

pub returns-clause-again : goal.returns-clause-again
returns-clause-again c = read_again c.args.text.now.lines c.put_lines.new.bytes.items (rw (c.new-bytes.ensures.items, c.as_slice.ensures) at c.in_ok-put_lines.ensures)

pub returns-clause-domain : goal.returns-clause-domain
returns-clause-domain c = domain_again c.args.text.now.lines c.put_lines.new.bytes.items (rw (c.new-bytes.ensures.items, c.as_slice.ensures) at c.in_ok-put_lines.ensures)
