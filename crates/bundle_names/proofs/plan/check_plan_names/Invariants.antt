use Rattle.std.proofs.Common.{drop}
use Rattle.bundle_names.specs.PlanNames.{FailsPlanNames, GivenNames, given_after, gives_again}
use Rattle.bundle_names.specs.GivenSoFar.{AreGiven}
use Rattle.bundle_names.proofs.Walking.{Left}
use Rattle.bundle_names.proofs.PlanLaws.{nothing_named}
use Rattle.bundle_names.proofs.plan.check_plan_names.Given as goal

abbrev pub invariant-lines : goal.invariant-lines
invariant-lines l = (names : GivenNames) × AreGiven l.given names × Left (FailsPlanNames l.bundle) given_after gives_again (nothing_named l.bundle) names (drop l.line-index l.bundle.plan.lines)
