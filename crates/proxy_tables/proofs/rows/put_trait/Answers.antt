use Rattle.std.proofs.Common.{sym, arith}
use Rattle.rl_defs.proofs.Places.{get_within}
use Rattle.proxy_tables.proofs.Building.{traits_same, traits_more}
use Rattle.proxy_tables.proofs.rows.put_trait.Goals as goal

pub returns-in_default : goal.returns-in_default
returns-in_default c = traits_same c.args.part.now.lines.now c.args.rows.now c.args.at c.args.line.now c.requires.before c.requires.here (sym c.in_default.ensures)

pub overflow_add-at : goal.overflow_add-at
overflow_add-at c = omega (arith, get_within c.args.part.now.lines.now c.args.at c.args.line.now c.requires.here, c.args.part.now.few)

pub method_rows-requires-clause-start : goal.method_rows-requires-clause-start
method_rows-requires-clause-start c = omega (arith, get_within c.args.part.now.lines.now c.args.at c.args.line.now c.requires.here)

pub returns : goal.returns
returns c = traits_more c.args.part.now.lines.now c.args.rows.now c.push.new.self c.args.at c.args.line.now c.in-Some.name c.in_ok-methods.methods c.requires.before c.requires.here (sym c.in-Some.ensures) c.in_ok-methods.ensures c.in_ok-push.ensures.ok
