use Rattle.std.proofs.Common.{◌∙◌, sym}
use Rattle.std.proofs.lemmas.Bool.{ne_eqb}
use Rattle.domain_checker.proofs.ShapeLaws.{methods_even, methods_uneven}
use Rattle.domain_checker.proofs.native.are_methods.Goals as goal

pub returns-then-shapes-rows : goal.returns-then-shapes-rows
returns-then-shapes-rows c = c.suit_methods.ensures ∙ methods_even c.args.tables.now c.args.shapes.now c.args.rows.now c.if-shapes-rows.true

pub returns-else-shapes-rows : goal.returns-else-shapes-rows
returns-else-shapes-rows c = ne_eqb _ _ c.if-shapes-rows.false ∙ sym (methods_uneven c.args.tables.now c.args.shapes.now c.args.rows.now c.if-shapes-rows.false)
