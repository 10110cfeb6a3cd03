use Rattle.std.proofs.Common.{sym, arith}
use Rattle.rl_defs.proofs.Places.{get_within}
use Rattle.proxy_tables.proofs.Building.{traits_begin, traits_end}
use Rattle.proxy_tables.proofs.rows.trait_rows.Goals as goal

pub traits-init : goal.traits-init
traits-init c = traits_begin c.args.part.now.lines.now c.new-rows.result c.new-rows.ensures

pub traits-smaller : goal.traits-smaller
traits-smaller c = let lt = get_within c.args.part.now.lines.now c.traits.at c.in-Some.line.now (sym c.in-Some.ensures) in omega (arith, lt)

pub returns : goal.returns
returns c = traits_end c.args.part.now.lines.now c.traits.rows c.traits.at c.traits.invariant (sym c.in_default.ensures)
