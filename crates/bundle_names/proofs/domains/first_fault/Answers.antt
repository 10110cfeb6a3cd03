use Rattle.std.proofs.Common.{◌≡◌, Some, length, refl, sym, subst, arith, Result}
use Rattle.std.specs.Prelude.{slice_get}
use Rattle.std.proofs.lemmas.Option.{slice_get_read}
use Rattle.rl_defs.specs.declared.LoadFault.{LoadFault}
use Rattle.rl_defs.specs.Refusals.{Answers}
use Rattle.bundle_names.specs.Scopes.{Somewhere}
use Rattle.bundle_names.specs.DomainNames.{FailsAtDomain}
use Rattle.bundle_names.proofs.DomainsScan.{room_for, rises_at, domains_go, domains_find, domains_end, err_of}
use Rattle.bundle_names.proofs.domains.first_fault.Goals as goal

pub check_domain-requires-clause-few : goal.check_domain-requires-clause-few
check_domain-requires-clause-few c =
    let here : slice_get c.args.domains.now c.domains.domain-index ≡ Some c.domain-item.result = slice_get_read c.args.domains.now (length c.args.domains.now) c.domains.domain-index c.domain-item.result refl c.domains-test.true c.domain-item.is in
    room_for c.args.known.now c.args.domains.now c.domains.domain-index c.domain-item.result c.domains.declared.domains c.domains.invariant here c.requires.few

pub check_domain-requires-clause-rises : goal.check_domain-requires-clause-rises
check_domain-requires-clause-rises c =
    let here : slice_get c.args.domains.now c.domains.domain-index ≡ Some c.domain-item.result = slice_get_read c.args.domains.now (length c.args.domains.now) c.domains.domain-index c.domain-item.result refl c.domains-test.true c.domain-item.is in
    rises_at c.args.domains.now c.domains.domain-index c.domain-item.result c.requires.rises here

pub returns-in_err-check_domain : goal.returns-in_err-check_domain
returns-in_err-check_domain c =
    let here : slice_get c.args.domains.now c.domains.domain-index ≡ Some c.domain-item.result = slice_get_read c.args.domains.now (length c.args.domains.now) c.domains.domain-index c.domain-item.result refl c.domains-test.true c.domain-item.is in
    subst (λ (r : Result (Unit {0}) LoadFault). Answers {X = Unit {0}} (Somewhere (FailsAtDomain c.args.known.now c.args.domains.now)) (λ _. Unit {0}) r) (sym (err_of c.from_residual.result c.in_err-check_domain.field-0.0 c.from_residual.ensures.1)) (domains_find c.args.known.now c.args.domains.now c.domains.domain-index c.domain-item.result c.domains.declared.domains c.domains.invariant here c.in_err-check_domain.field-0.0 c.requires.rises c.in_err-check_domain.ensures.answer)

pub domains-preserved : goal.domains-preserved
domains-preserved c =
    let here : slice_get c.args.domains.now c.domains.domain-index ≡ Some c.domain-item.result = slice_get_read c.args.domains.now (length c.args.domains.now) c.domains.domain-index c.domain-item.result refl c.domains-test.true c.domain-item.is in
    domains_go c.args.known.now c.args.domains.now c.domains.domain-index c.domain-item.result c.domains.declared.domains c.domains.invariant here c.check_domain.new.declared.domains c.in_ok-check_domain.ensures.answer.0 c.in_ok-check_domain.ensures.domains

pub returns : goal.returns
returns c = (domains_end c.args.known.now c.args.domains.now c.domains.domain-index c.domains.declared.domains (omega arith) c.domains.invariant, tt)
