use Rattle.std.proofs.Common.{◌≡◌, ℕ, List, sym, ap, ◌∙◌, slice_get}
use Rattle.rl_defs.specs.declared.load.LoadRows.{LoadRows}
use Rattle.rl_defs.specs.declared.tables.Tables.{Tables}
use Rattle.rl_defs.specs.CodeNames.{cells_of}
use Rattle.machine_defs.specs.Objects.{if_number}
use Rattle.rref_heap.specs.HeapValue.{cells_at}
use Rattle.machine_steps.proofs.Seeing.{cell_gone, cell_of_kind}
use Rattle.machine_steps.proofs.view.number_cell.Goals as goal

pub returns-in_default : goal.returns-in_default
returns-in_default c s objects = sym (cell_gone c.args.load.now s c.args.heap.now.rows c.is_kept.ensures.numbered objects c.args.object c.args.at (sym c.row.ensures ∙ c.in_default.is))

pub returns : goal.returns
returns c s objects =
    let L = c.args.load.now in
    let kind : slice_get (cells_of L.tables c.in-Some.row.ty) c.args.at ≡ c.kind_of_cell-kind.result = ap (λ (tables : Tables). slice_get (cells_of tables c.in-Some.row.ty) c.args.at) (ap (λ (rows : LoadRows). rows.tables) (sym c.rows.ensures.value) ∙ sym c.get.ensures) ∙ sym c.kind_of_cell-kind.ensures in
    let cell : c.cell_at.result ≡ slice_get (cells_at c.args.heap.now.rows c.args.object) c.args.at = c.cell_at.ensures ∙ ap (λ (cells : List ℕ). slice_get cells c.args.at) c.cells.ensures in
    c.if_number.ensures ∙ (ap (if_number c.kind_of_cell-kind.result) cell ∙ sym (cell_of_kind L s c.args.heap.now.rows c.is_kept.ensures.numbered objects c.args.object c.args.at c.in-Some.row (sym c.row.ensures ∙ c.in-Some.is) c.kind_of_cell-kind.result kind))
