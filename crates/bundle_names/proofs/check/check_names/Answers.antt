use Rattle.std.proofs.Common.{rules, ◌≡◌, Err, arith, sym, subst}
use Rattle.rl_defs.specs.Refusals.{Answers}
use Rattle.rl_defs.specs.NameRules.{FailsBundleNames}
use Rattle.bundle_names.proofs.Composition.{Answer, interfaces_answer, domains_answer, plan_answer, clients_answer, interface_rises, interface_few}
use Rattle.bundle_names.proofs.check.check_names.Goals as goal

pub check_interfaces-requires-clause-few : goal.check_interfaces-requires-clause-few
check_interfaces-requires-clause-few c = omega (arith, interface_few c.args.bundle.now c.requires.ordered)

pub check_interfaces-requires-clause-rises : goal.check_interfaces-requires-clause-rises
check_interfaces-requires-clause-rises c = interface_rises c.args.bundle.now c.requires.ordered

pub returns-in_err-check_interfaces : goal.returns-in_err-check_interfaces
returns-in_err-check_interfaces c =
    let same : c.from_residual.result ≡ Err c.in_err-check_interfaces.field-0.0 = search rules in
    subst (λ (r : Answer). Answers {X = Unit {0}} (FailsBundleNames c.args.bundle.now) (λ _. Unit {0}) r) (sym same) (interfaces_answer c.args.bundle.now c.requires.ordered c.in_err-check_interfaces.field-0.0 c.in_err-check_interfaces.ensures)

pub returns-in_err-check_domains : goal.returns-in_err-check_domains
returns-in_err-check_domains c =
    let same : c.from_residual-in_err-check_domains.result ≡ Err c.in_err-check_domains.field-0.0 = search rules in
    subst (λ (r : Answer). Answers {X = Unit {0}} (FailsBundleNames c.args.bundle.now) (λ _. Unit {0}) r) (sym same) (domains_answer c.args.bundle.now c.requires.ordered (c.in_ok-check_interfaces.ensures).0 c.in_err-check_domains.field-0.0 c.in_err-check_domains.ensures)

pub returns-in_err-check_plan_names : goal.returns-in_err-check_plan_names
returns-in_err-check_plan_names c =
    let same : c.from_residual-in_err-check_plan_names.result ≡ Err c.in_err-check_plan_names.field-0.0 = search rules in
    subst (λ (r : Answer). Answers {X = Unit {0}} (FailsBundleNames c.args.bundle.now) (λ _. Unit {0}) r) (sym same) (plan_answer c.args.bundle.now c.requires.ordered (c.in_ok-check_interfaces.ensures).0 (c.in_ok-check_domains.ensures).0 c.in_err-check_plan_names.field-0.0 c.in_err-check_plan_names.ensures)

pub returns : goal.returns
returns c = clients_answer c.args.bundle.now (c.in_ok-check_interfaces.ensures).0 (c.in_ok-check_domains.ensures).0 (c.in_ok-check_plan_names.ensures).0 c.check_client_names.result c.check_client_names.ensures
