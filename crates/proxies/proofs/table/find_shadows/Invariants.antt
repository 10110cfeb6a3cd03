use Rattle.std.proofs.Common.{◌≡◌, ◌+◌, map, length}
use Rattle.std.specs.List.{range_with_len}
use Rattle.proxies.specs.Table.{found_at}
use Rattle.proxies.proofs.table.find_shadows.Given as goal

abbrev pub invariant-shadows : goal.invariant-shadows
invariant-shadows l = l.targets.items ≡ map (found_at l.rows) (range_with_len 1 (length l.rows.loads + l.shadow-index))
