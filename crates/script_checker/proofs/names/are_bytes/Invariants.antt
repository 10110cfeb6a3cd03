use Rattle.std.proofs.Common.{◌≡◌, drop}
use Rattle.std.specs.List.{list_all}
use Rattle.rl_defs.specs.declared.tables.Width.TheVariants as width
use Rattle.rl_defs.specs.NativeShapes.{is_number}
use Rattle.script_checker.proofs.names.are_bytes.Given as goal

abbrev pub invariant-each : goal.invariant-each
invariant-each l = list_all (is_number width.W8) (drop l.cell-index l.cells) ≡ list_all (is_number width.W8) l.cells
