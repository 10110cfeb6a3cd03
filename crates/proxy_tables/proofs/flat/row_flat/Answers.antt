use Rattle.std.proofs.Common.{List, sym, ap, subst, arith, length}
use Rattle.rl_defs.specs.declared.tables.Kind.{Kind}
use Rattle.rl_defs.specs.Interfaces.{types_at}
use Rattle.rl_defs.specs.Flattening.{Flattens}
use Rattle.proxy_tables.proofs.Types.{row_flat, row_missing}
use Rattle.proxy_tables.proofs.flat.row_flat.Goals as goal

pub returns-in-Some-clause-flat : goal.returns-in-Some-clause-flat
returns-in-Some-clause-flat c = subst (λ (ks : List Kind). Flattens c.args.part.now.lines.now (types_at c.args.part.now.lines.now c.args.held) ks) (sym c.as_slice.ensures) (row_flat c.args.part.now.lines.now c.args.structs.now c.args.held c.in-Some.row.now c.requires.are (sym c.in-Some.ensures))

pub returns-in-Some-clause-few : goal.returns-in-Some-clause-few
returns-in-Some-clause-few c = omega (arith, ap length c.as_slice.ensures, c.requires.small c.args.held c.in-Some.row.now (sym c.in-Some.ensures))

pub returns-in-None-clause-flat : goal.returns-in-None-clause-flat
returns-in-None-clause-flat c = row_missing c.args.part.now.lines.now c.args.structs.now c.args.held c.requires.are (sym c.in-None.ensures)
