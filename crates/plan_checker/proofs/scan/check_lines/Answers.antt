use Rattle.std.proofs.Common.{◌≡◌, ℕ, Option, Some, length, refl, ap, subst, arith, slice_get}
use Rattle.std.proofs.lemmas.Option.{slice_get_read}
use Rattle.rl_defs.proofs.FirstRefusal.{refuses}
use Rattle.plan_checker.specs.LineScan.{FailsIn, IsLowest}
use Rattle.plan_checker.specs.Lookups.{PlanLines}
use Rattle.plan_checker.specs.PlanTests.{FailsPlanLine}
use Rattle.plan_checker.proofs.Scanning.{none_first, none_more, none_all, found_first}
use Rattle.plan_checker.proofs.Lowest.{seen_first, seen_more, lowest_seen}
use Rattle.plan_checker.proofs.Keeping.{loads_loaded}
use Rattle.plan_checker.proofs.scan.check_lines.Goals as goal

pub lines-init : goal.lines-init
lines-init c = record {
  none = none_first c.args.tables.now.plan.lines (FailsPlanLine c.args.tables.now);
  seen = seen_first c.args.tables.now.plan.lines c.new-seen.result.loads c.new-seen.result.shadowed c.new-seen.result.devices c.new-seen.ensures.loads c.new-seen.ensures.shadowed c.new-seen.ensures.devices;
}

pub rule_of-requires : goal.rule_of-requires
rule_of-requires c =
    let there : slice_get c.lines-lines.result.now c.lines.line-index ≡ Some c.line-item.result = slice_get_read c.lines-lines.result.now (length c.lines-lines.result.now) c.lines.line-index c.line-item.result refl c.lines-test.true c.line-item.is in
    loads_loaded c.args.tables.now c.lines.line-index c.line-item.result (subst (λ (ls : PlanLines). slice_get ls c.lines.line-index ≡ Some c.line-item.result) c.lines-lines.ensures there)

pub lines-preserved : goal.lines-preserved
lines-preserved c =
    let there : slice_get c.lines-lines.result.now c.lines.line-index ≡ Some c.line-item.result = slice_get_read c.lines-lines.result.now (length c.lines-lines.result.now) c.lines.line-index c.line-item.result refl c.lines-test.true c.line-item.is in
    let here : slice_get c.args.tables.now.plan.lines c.lines.line-index ≡ Some c.line-item.result = subst (λ (ls : PlanLines). slice_get ls c.lines.line-index ≡ Some c.line-item.result) c.lines-lines.ensures there in
    let lowest = subst (λ (o : Option ℕ). IsLowest (FailsPlanLine c.args.tables.now c.lines.line-index c.line-item.result.form) o) c.in_default.is (lowest_seen c.args.tables.now c.lines.line-index c.line-item.result.form c.lines.seen.loads c.lines.seen.shadowed c.lines.seen.devices c.rule_of.result c.lines.invariant.seen c.rule_of.ensures) in
    record {
      none = none_more c.args.tables.now.plan.lines (FailsPlanLine c.args.tables.now) c.lines.line-index c.line-item.result c.lines.invariant.none here lowest;
      seen = seen_more c.args.tables.now.plan.lines c.lines.line-index c.line-item.result c.lines.seen.loads c.add.new.self.loads c.lines.seen.shadowed c.add.new.self.shadowed c.lines.seen.devices c.add.new.self.devices c.lines.invariant.seen here c.in_ok-add.ensures.loads c.in_ok-add.ensures.shadowed c.in_ok-add.ensures.devices c.in_ok-add.ensures.few.0 c.in_ok-add.ensures.few.2 c.in_ok-add.ensures.few.1;
    }

pub returns : goal.returns
returns c = (none_all c.args.tables.now.plan.lines (FailsPlanLine c.args.tables.now) c.lines.line-index (omega (arith, ap length c.lines-lines.ensures)) c.lines.invariant.none, tt)

pub returns-in-Some : goal.returns-in-Some
returns-in-Some c =
    let there : slice_get c.lines-lines.result.now c.lines.line-index ≡ Some c.line-item.result = slice_get_read c.lines-lines.result.now (length c.lines-lines.result.now) c.lines.line-index c.line-item.result refl c.lines-test.true c.line-item.is in
    let here : slice_get c.args.tables.now.plan.lines c.lines.line-index ≡ Some c.line-item.result = subst (λ (ls : PlanLines). slice_get ls c.lines.line-index ≡ Some c.line-item.result) c.lines-lines.ensures there in
    let lowest = subst (λ (o : Option ℕ). IsLowest (FailsPlanLine c.args.tables.now c.lines.line-index c.line-item.result.form) o) c.in-Some.is (lowest_seen c.args.tables.now c.lines.line-index c.line-item.result.form c.lines.seen.loads c.lines.seen.shadowed c.lines.seen.devices c.rule_of.result c.lines.invariant.seen c.rule_of.ensures) in
    refuses {X = Unit {0}} (FailsIn c.args.tables.now.plan.lines (FailsPlanLine c.args.tables.now)) (λ _. Unit {0}) c.refused.result c.line-item.result.line c.in-Some.rule c.refused.ensures
    (found_first c.args.tables.now.plan.lines (FailsPlanLine c.args.tables.now) c.lines.line-index c.in-Some.rule c.line-item.result c.requires.rises c.lines.invariant.none here lowest)
