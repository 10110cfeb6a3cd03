use Rattle.std.proofs.Common.{◌≡◌, ◌*◌, ◌≤◌, min, drop}
use Rattle.rl_defs.specs.Flattening.{times_of}
use Rattle.exchangeable_types.proofs.types.times.Given as goal

abbrev pub invariant-wraps : goal.invariant-wraps
invariant-wraps l = record {
  few : l.times ≤ 513;
  rest : min 513 (l.times * times_of (drop l.wrap-index l.wraps)) ≡ min 513 (times_of l.wraps);
}
