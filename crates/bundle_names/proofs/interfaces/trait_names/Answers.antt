use Rattle.std.proofs.Common.{◌≡◌, Some, length, refl, arith}
use Rattle.std.specs.Prelude.{slice_get}
use Rattle.std.proofs.lemmas.Option.{slice_get_read}
use Rattle.rl_defs.specs.Interfaces.{trait_name}
use Rattle.bundle_names.proofs.NamesInOrder.{names_more, names_end}
use Rattle.bundle_names.proofs.interfaces.trait_names.Goals as goal

pub lines-preserved : goal.lines-preserved
lines-preserved c =
    let here : slice_get c.args.lines.now c.lines.line-index ≡ Some c.line-item.result = slice_get_read c.args.lines.now (length c.args.lines.now) c.lines.line-index c.line-item.result refl c.lines-test.true c.line-item.is in
    names_more trait_name c.args.lines.now c.lines.line-index c.lines.names c.add.new.names c.line-item.result c.trait_name.result c.lines.invariant here c.trait_name.ensures c.in_ok-add.ensures

pub returns : goal.returns
returns c = names_end trait_name c.args.lines.now c.lines.line-index c.lines.names (omega arith) c.lines.invariant
