use Rattle.std.proofs.Common.{◌≡◌, ◌≤◌, ◌<◌, ◌-◌, ◌^◌, [], length, map, drop}
use Rattle.bundle_names.specs.InterfaceLines.{is_twice}
use Rattle.bundle_names.proofs.interface_lines.are_twice.Given as goal

abbrev pub invariant-params : goal.invariant-params
invariant-params l = record {
  few : length l.names ≤ l.param-index;
  room : length l.params < 2 ^ 32 - 1;
  rest : is_twice l.names (map (λ p. p.name) (drop l.param-index l.params)) ≡ is_twice [] (map (λ p. p.name) l.params);
}
