use Rattle.std.proofs.Common.{take}
use Rattle.rl_defs.specs.Interfaces.{param_types}
use Rattle.exchangeable_types.specs.Capped.{CellsOf}
use Rattle.proxy_tables.proofs.flat.put_params.Given as goal

abbrev pub invariant-params : goal.invariant-params
invariant-params l = CellsOf l.part.lines.now l.limit (param_types (take l.param-index l.params)) l.cells
