use Rattle.std.proofs.Common.{◌≡◌, ◌++◌}
use Rattle.rl_defs.specs.Flattening.{copies}
use Rattle.exchangeable_types.proofs.cells.append_times.Given as goal

abbrev pub invariant-times : goal.invariant-times
invariant-times l = l.items.items ≡ l.fn.items.items ++ copies l.counter l.kinds
