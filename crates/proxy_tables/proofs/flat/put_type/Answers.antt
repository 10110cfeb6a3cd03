use Rattle.std.proofs.Common.{List, min, sym, ap, ◌∙◌}
use Rattle.rl_defs.specs.declared.idl.Wrap.{Wrap}
use Rattle.rl_defs.specs.Flattening.{times_of}
use Rattle.exchangeable_types.proofs.Capping.{cells_plain, cells_fields, nothing_more, kind_more}
use Rattle.exchangeable_types.proofs.RowLaws.{ok_maps}
use Rattle.proxy_tables.proofs.flat.put_type.Goals as goal

pub returns-in-Some : goal.returns-in-Some
returns-in-Some c =
    let count = c.times-times.ensures ∙ ap (λ (ws : List Wrap). min 513 (times_of ws)) c.as_slice.ensures in
    ok_maps c.put.result _ _ c.put.ensures (λ more h passed cells. cells_fields c.args.part.now.lines.now c.args.limit passed c.args.ty.now c.in-Some.held c.row_flat.result.now c.args.cells more (sym c.in-Some.ensures) c.row_flat.ensures.flat (λ before k. h before (times_of c.args.ty.now.wraps) k count) cells)

pub returns-in-Some-kind_held : goal.returns-in-Some-kind_held
returns-in-Some-kind_held c =
    let count = c.times-times.ensures ∙ ap (λ (ws : List Wrap). min 513 (times_of ws)) c.as_slice.ensures in
    ok_maps c.put-in-Some-kind_held.result _ _ c.put-in-Some-kind_held.ensures (λ more h passed cells. cells_plain c.args.part.now.lines.now c.args.limit passed c.args.ty.now c.args.cells more (sym c.in_default.ensures) (λ before k. kind_more c.args.part.now.lines.now c.args.limit (times_of c.args.ty.now.wraps) c.args.ty.now c.in-Some-kind_held.kind before more (sym c.in-Some-kind_held.ensures) (h before (times_of c.args.ty.now.wraps) k count)) cells)

pub returns-in-None : goal.returns-in-None
returns-in-None c = λ passed cells.
    cells_plain c.args.part.now.lines.now c.args.limit passed c.args.ty.now c.args.cells c.args.cells (sym c.in_default.ensures) (λ before k. nothing_more c.args.part.now.lines.now c.args.limit (times_of c.args.ty.now.wraps) c.args.ty.now before c.args.cells (sym c.in-None.ensures) k) cells
