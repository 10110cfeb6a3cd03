use Rattle.std.proofs.Common.{◌≡◌, ◌≤◌, length, take}
use Rattle.machine_steps.proofs.returns.copied.Given as goal

abbrev pub invariant-each : goal.invariant-each
invariant-each l = record {
  so_far : l.all ≡ take l.value-index l.results;
  few : length l.results ≤ 4;
}
