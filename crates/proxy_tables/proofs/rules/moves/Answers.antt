use Rattle.std.proofs.Common.{◌||◌, List, length, refl, sym, subst}
use Rattle.std.proofs.lemmas.Option.{slice_get_read}
use Rattle.rl_defs.specs.declared.idl.TypeText.{TypeText}
use Rattle.rl_defs.specs.Interfaces.{param_types}
use Rattle.std.proofs.Common.{take}
use Rattle.proxy_tables.specs.Rules.{Moves}
use Rattle.proxy_tables.proofs.Moving.{moves_more, no_moves}
use Rattle.proxy_tables.proofs.Types.{params_more}
use Rattle.proxy_tables.proofs.rules.moves.Goals as goal

pub params-init : goal.params-init
params-init c = no_moves c.args.part.now.lines.now

pub params-preserved : goal.params-preserved
params-preserved c =
    let here = slice_get_read c.args.params.now (length c.args.params.now) c.params.param-index c.param-item.result refl c.params-test.true c.param-item.is in
    subst (λ (ts : List TypeText). Moves c.args.part.now.lines.now ts (c.params.found || c.moves_type-found.result)) (sym (params_more c.args.params.now c.params.param-index c.param-item.result here)) (moves_more c.args.part.now.lines.now (param_types (take c.params.param-index c.args.params.now)) c.param-item.result.ty c.params.found c.moves_type-found.result c.params.invariant c.moves_type-found.ensures)
