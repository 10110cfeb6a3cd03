use Rattle.std.proofs.Common.{◌∙◌, sym}
use Rattle.std.proofs.lemmas.Bool.{ne_eqb}
use Rattle.domain_checker.proofs.ShapeLaws.{shapes_even, shapes_uneven}
use Rattle.domain_checker.proofs.native.are_shapes.Goals as goal

pub returns-then-shapes-kinds : goal.returns-then-shapes-kinds
returns-then-shapes-kinds c = c.suit_shapes.ensures ∙ shapes_even c.args.tables.now c.args.shapes.now c.args.kinds.now c.if-shapes-kinds.true

pub returns-else-shapes-kinds : goal.returns-else-shapes-kinds
returns-else-shapes-kinds c = ne_eqb _ _ c.if-shapes-kinds.false ∙ sym (shapes_uneven c.args.tables.now c.args.shapes.now c.args.kinds.now c.if-shapes-kinds.false)
