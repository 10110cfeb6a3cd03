use Rattle.std.proofs.lemmas.Result.{err_from_is_err_and}
use Rattle.std.proofs.Common.{◌≡◌, List, Some, None, length, refl, ap, subst, ◌∙◌, arith}
use Rattle.std.specs.Prelude.{slice_get}
use Rattle.std.proofs.lemmas.Option.{slice_get_read}
use Rattle.rl_defs.specs.declared.bundle.Numbered.{Numbered}
use Rattle.rl_defs.specs.declared.bundle.PlanLine.{PlanLine}
use Rattle.bundle_names.specs.declared.known.Known.{Known}
use Rattle.bundle_names.specs.PlanNames.{FailsPlanNames, none_given, given_after, gives_again, names_nothing}
use Rattle.bundle_names.proofs.Walking.{left_next, left_fails, left_all, rule_same}
use Rattle.bundle_names.proofs.PlanLaws.{nothing_named, plan_left}
use Rattle.bundle_names.proofs.PartNumbers.{plan_rises}
use Rattle.bundle_names.proofs.plan.check_plan_names.Goals as goal

pub lines-init : goal.lines-init
lines-init c = (none_given, c.new-given.ensures, plan_left c.args.bundle.now (plan_rises c.args.bundle.now c.requires.ordered.rises))

pub returns-in-Some : goal.returns-in-Some
returns-in-Some c =
    let here = subst (λ (xs : List (Numbered PlanLine)). slice_get xs c.lines.line-index ≡ Some c.line-item.result) c.as_slice-line-items.ensures (slice_get_read c.as_slice-line-items.result.now (length c.as_slice-line-items.result.now) c.lines.line-index c.line-item.result refl c.lines-test.true c.line-item.is) in
    let names = c.lines.invariant.0 in
    let broken = rule_same c.in_ok-again.again c.names_nothing.result (gives_again names c.line-item.result.form) (nothing_named c.args.bundle.now names c.line-item.result.form) c.rule_of.result (Some c.in-Some.rule) c.rule_of.ensures c.in-Some.is (c.in_ok-again.ensures.again names c.lines.invariant.1) (c.names_nothing.ensures ∙ ap (λ (k : Known). names_nothing k c.line-item.result.form) c.in_ok-known.ensures) in
    left_fails (FailsPlanNames c.args.bundle.now) given_after gives_again (nothing_named c.args.bundle.now) names c.args.bundle.now.plan.lines c.lines.line-index c.line-item.result c.in-Some.rule c.refused.result here c.lines.invariant.2 broken c.refused.ensures

pub lines-preserved : goal.lines-preserved
lines-preserved c =
    let here = subst (λ (xs : List (Numbered PlanLine)). slice_get xs c.lines.line-index ≡ Some c.line-item.result) c.as_slice-line-items.ensures (slice_get_read c.as_slice-line-items.result.now (length c.as_slice-line-items.result.now) c.lines.line-index c.line-item.result refl c.lines-test.true c.line-item.is) in
    let names = c.lines.invariant.0 in
    let kept = rule_same c.in_ok-again.again c.names_nothing.result (gives_again names c.line-item.result.form) (nothing_named c.args.bundle.now names c.line-item.result.form) c.rule_of.result None c.rule_of.ensures c.in_default.is (c.in_ok-again.ensures.again names c.lines.invariant.1) (c.names_nothing.ensures ∙ ap (λ (k : Known). names_nothing k c.line-item.result.form) c.in_ok-known.ensures) in
    (given_after names c.line-item.result.form, c.in_ok-again.ensures.given names c.lines.invariant.1, left_next (FailsPlanNames c.args.bundle.now) given_after gives_again (nothing_named c.args.bundle.now) names c.args.bundle.now.plan.lines c.lines.line-index c.line-item.result here c.lines.invariant.2 kept)

pub returns : goal.returns
returns c = (left_all (FailsPlanNames c.args.bundle.now) given_after gives_again (nothing_named c.args.bundle.now) c.lines.invariant.0 c.args.bundle.now.plan.lines c.lines.line-index (omega (arith, ap length c.as_slice-line-items.ensures)) c.lines.invariant.2, tt)

pub returns-in_err-again : goal.returns-in_err-again
returns-in_err-again c = let p = err_from_is_err_and c.from_residual-in_err-again.result c.from_residual-in_err-again.ensures.1 in rw (p.1, p.2) tt
