use Rattle.plan_checker.specs.LineScan.{NoneBefore}
use Rattle.plan_checker.specs.PlanTests.{FailsPlanLine}
use Rattle.plan_checker.proofs.Lowest.{SeenTo}
use Rattle.plan_checker.proofs.scan.check_lines.Given as goal

abbrev pub invariant-lines : goal.invariant-lines
invariant-lines l = record {
  none : NoneBefore l.fn.tables.plan.lines (FailsPlanLine l.fn.tables) l.line-index;
  seen : SeenTo l.fn.tables.plan.lines l.line-index l.seen.loads l.seen.shadowed l.seen.devices;
}
