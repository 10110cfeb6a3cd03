use Rattle.std.proofs.Common.{◌≡◌, ◌≤◌}
use Rattle.rl_defs.specs.BundleNames.{client_given}
use Rattle.plan_checker.specs.LineScan.{NoneBefore, given_before}
use Rattle.plan_checker.specs.Limits.{FailsClientLine, commands_before}
use Rattle.plan_checker.proofs.Counting.{AtMost}
use Rattle.plan_checker.proofs.limits.check_clients.Given as goal

abbrev pub invariant-lines : goal.invariant-lines
invariant-lines l = record {
  none : NoneBefore l.lines (FailsClientLine l.lines) l.line-index;
  count : l.clients ≡ given_before client_given l.lines l.line-index;
  few : l.clients ≤ l.line-index;
  commands_are : l.commands ≡ commands_before l.lines l.line-index;
  few_commands : AtMost l.line-index l.commands;
}
