use Rattle.std.proofs.Common.{rules, ◌≡◌, Err}
use Rattle.plan_checker.proofs.Composing.{domains_refuse, plan_refuses, clients_answer}
use Rattle.plan_checker.proofs.check.check_parts.Goals as goal

pub returns-in_err-check_domains : goal.returns-in_err-check_domains
returns-in_err-check_domains c =
    let same : c.from_residual.result ≡ Err c.in_err-check_domains.field-0.0 = search rules in
    rw same (domains_refuse c.args.domains.now c.args.tables.now c.args.clients.now c.requires c.in_err-check_domains.field-0.0 c.in_err-check_domains.ensures)

pub returns-in_err-check_lines : goal.returns-in_err-check_lines
returns-in_err-check_lines c =
    let same : c.from_residual-in_err-check_lines.result ≡ Err c.in_err-check_lines.field-0.0 = search rules in
    rw same (plan_refuses c.args.domains.now c.args.tables.now c.args.clients.now c.requires c.in_err-check_lines.field-0.0 c.in_ok-check_domains.ensures.0 c.in_err-check_lines.ensures)

pub returns : goal.returns
returns c = clients_answer c.args.domains.now c.args.tables.now c.args.clients.now c.requires c.check_clients.result c.in_ok-check_domains.ensures.0 c.in_ok-check_lines.ensures.0 c.check_clients.ensures
