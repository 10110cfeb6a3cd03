use Rattle.std.proofs.Common.{take}
use Rattle.exchangeable_types.specs.Capped.{CellsOf}
use Rattle.proxy_tables.proofs.flat.put_types.Given as goal

abbrev pub invariant-types : goal.invariant-types
invariant-types l = CellsOf l.part.lines.now l.limit (take l.ty-index l.types) l.cells
