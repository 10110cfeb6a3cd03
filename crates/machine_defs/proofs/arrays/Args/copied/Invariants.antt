use Rattle.std.proofs.Common.{◌≡◌, ◌≤◌, length, take}
use Rattle.machine_defs.proofs.arrays.Args.copied.Given as goal

abbrev pub invariant-each : goal.invariant-each
invariant-each l = record {
  so_far : l.all ≡ take l.arg-index l.self;
  few : length l.self ≤ 8;
}
