use Rattle.std.proofs.Common.{◌≡◌, map}
use Rattle.std.specs.List.{range_with_len}
use Rattle.proxies.specs.Table.{found_at}
use Rattle.proxies.proofs.table.found_loads.Given as goal

abbrev pub invariant-loads : goal.invariant-loads
invariant-loads l = l.targets.items ≡ map (found_at l.rows) (range_with_len 1 l.before)
