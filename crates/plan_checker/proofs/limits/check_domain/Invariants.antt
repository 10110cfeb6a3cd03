use Rattle.std.proofs.Common.{◌≡◌, ◌≤◌}
use Rattle.rl_defs.specs.BundleNames.{slot_given}
use Rattle.plan_checker.specs.LineScan.{NoneBefore, given_before}
use Rattle.plan_checker.specs.Limits.{FailsDomainLine}
use Rattle.plan_checker.proofs.limits.check_domain.Given as goal

abbrev pub invariant-lines : goal.invariant-lines
invariant-lines l = record {
  none : NoneBefore l.lines (FailsDomainLine l.lines) l.line-index;
  count : l.slots ≡ given_before slot_given l.lines l.line-index;
  few : l.slots ≤ l.line-index;
}
