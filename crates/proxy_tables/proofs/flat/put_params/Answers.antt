use Rattle.std.proofs.Common.{List, length, refl, sym, subst}
use Rattle.std.proofs.lemmas.Option.{slice_get_read}
use Rattle.rl_defs.specs.declared.idl.TypeText.{TypeText}
use Rattle.exchangeable_types.specs.Capped.{CellsOf}
use Rattle.exchangeable_types.proofs.Capping.{no_cells}
use Rattle.proxy_tables.proofs.Types.{params_more}
use Rattle.proxy_tables.proofs.flat.put_params.Goals as goal

pub params-init : goal.params-init
params-init c = no_cells c.args.part.now.lines.now c.args.limit c.new.result c.new.ensures

pub params-preserved : goal.params-preserved
params-preserved c =
    let here = slice_get_read c.args.params.now (length c.args.params.now) c.params.param-index c.param-item.result refl c.params-test.true c.param-item.is in
    subst (λ (ts : List TypeText). CellsOf c.args.part.now.lines.now c.args.limit ts c.in_ok-cells.cells) (sym (params_more c.args.params.now c.params.param-index c.param-item.result here)) (c.in_ok-cells.ensures _ c.params.invariant)
