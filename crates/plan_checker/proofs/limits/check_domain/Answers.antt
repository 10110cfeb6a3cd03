use Rattle.std.proofs.Common.{◌≡◌, ℕ, Some, length, refl, ap, ◌∙◌, arith, slice_get}
use Rattle.std.proofs.lemmas.Option.{slice_get_read}
use Rattle.rl_defs.specs.BundleNames.{slot_given}
use Rattle.rl_defs.proofs.FirstRefusal.{refuses}
use Rattle.plan_checker.specs.LineScan.{FailsIn, given_before}
use Rattle.plan_checker.specs.Limits.{FailsDomainLine, is_over_in_domain}
use Rattle.plan_checker.proofs.Scanning.{none_first, none_more, none_all, found_first, before_more}
use Rattle.plan_checker.proofs.Counting.{over_none, over_first}
use Rattle.plan_checker.proofs.limits.check_domain.Goals as goal

pub lines-init : goal.lines-init
lines-init c = record { none = none_first c.args.lines.now (FailsDomainLine c.args.lines.now); count = refl; few = omega arith }

pub slots_behind-slots-requires : goal.slots_behind-slots-requires
slots_behind-slots-requires c = omega (arith, c.lines.invariant.few, c.lines-test.true, c.requires.few)

pub lines-preserved : goal.lines-preserved
lines-preserved c =
    let here : slice_get c.args.lines.now c.lines.line-index ≡ Some c.line-item.result = slice_get_read c.args.lines.now (length c.args.lines.now) c.lines.line-index c.line-item.result refl c.lines-test.true c.line-item.is in
    record {
      none = none_more c.args.lines.now (FailsDomainLine c.args.lines.now) c.lines.line-index c.line-item.result c.lines.invariant.none here (over_none c.is_over_in_domain.result (is_over_in_domain (given_before slot_given c.args.lines.now c.lines.line-index) c.line-item.result.form) (c.is_over_in_domain.ensures ∙ ap (λ (n : ℕ). is_over_in_domain n c.line-item.result.form) c.lines.invariant.count) c.if-is_over_in_domain.false);
      count = before_more slot_given c.args.lines.now c.lines.line-index c.line-item.result c.lines.slots c.slots_behind-slots.result here c.lines.invariant.count c.slots_behind-slots.ensures.count;
      few = omega (arith, c.lines.invariant.few, c.slots_behind-slots.ensures.few);
    }

pub returns : goal.returns
returns c = (none_all c.args.lines.now (FailsDomainLine c.args.lines.now) c.lines.line-index (omega arith) c.lines.invariant.none, tt)

pub returns-then-is_over_in_domain : goal.returns-then-is_over_in_domain
returns-then-is_over_in_domain c =
    let here : slice_get c.args.lines.now c.lines.line-index ≡ Some c.line-item.result = slice_get_read c.args.lines.now (length c.args.lines.now) c.lines.line-index c.line-item.result refl c.lines-test.true c.line-item.is in
    refuses {X = Unit {0}} (FailsIn c.args.lines.now (FailsDomainLine c.args.lines.now)) (λ _. Unit {0}) c.refused.result c.line-item.result.line 46 c.refused.ensures
    (found_first c.args.lines.now (FailsDomainLine c.args.lines.now) c.lines.line-index 46 c.line-item.result c.requires.rises c.lines.invariant.none here (over_first c.is_over_in_domain.result (is_over_in_domain (given_before slot_given c.args.lines.now c.lines.line-index) c.line-item.result.form) (c.is_over_in_domain.ensures ∙ ap (λ (n : ℕ). is_over_in_domain n c.line-item.result.form) c.lines.invariant.count) c.if-is_over_in_domain.true))
