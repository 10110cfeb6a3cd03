use Rattle.std.proofs.Common.{◌≡◌, map}
use Rattle.std.specs.List.{range_with_len}
use Rattle.rl_defs.specs.Domains.{is_serial}
use Rattle.proxies.proofs.table.serial_loads.Given as goal

abbrev pub invariant-loads : goal.invariant-loads
invariant-loads l = l.serial.items ≡ map (is_serial l.rows) (range_with_len 1 l.before)
