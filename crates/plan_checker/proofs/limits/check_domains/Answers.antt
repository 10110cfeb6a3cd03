use Rattle.std.proofs.Common.{rules, ◌≡◌, Err, Some, length, refl, arith, slice_get}
use Rattle.std.proofs.lemmas.Option.{slice_get_read}
use Rattle.plan_checker.proofs.Counting.{domains_first, domains_all, domain_answers, domain_passes}
use Rattle.plan_checker.proofs.limits.check_domains.Goals as goal

pub domains-init : goal.domains-init
domains-init c = domains_first c.args.domains.now

pub returns : goal.returns
returns c = (domains_all c.args.domains.now c.domains.domain-index (omega arith) c.domains.invariant, tt)

pub domains-preserved : goal.domains-preserved
domains-preserved c =
    let here : slice_get c.args.domains.now c.domains.domain-index ≡ Some c.domain-item.result = slice_get_read c.args.domains.now (length c.args.domains.now) c.domains.domain-index c.domain-item.result refl c.domains-test.true c.domain-item.is in
    domain_passes c.args.domains.now c.domains.domain-index c.domain-item.result c.lines.result.now c.domains.invariant here c.lines.ensures.value c.in_ok-check_domain.ensures.0

pub returns-in_err-check_domain : goal.returns-in_err-check_domain
returns-in_err-check_domain c =
    let here : slice_get c.args.domains.now c.domains.domain-index ≡ Some c.domain-item.result = slice_get_read c.args.domains.now (length c.args.domains.now) c.domains.domain-index c.domain-item.result refl c.domains-test.true c.domain-item.is in
    let same : c.from_residual.result ≡ Err c.in_err-check_domain.field-0.0 = search rules in
    rw same (domain_answers c.args.domains.now c.domains.domain-index c.domain-item.result c.lines.result.now c.in_err-check_domain.field-0.0 c.requires c.domains.invariant here c.lines.ensures.value c.in_err-check_domain.ensures)
