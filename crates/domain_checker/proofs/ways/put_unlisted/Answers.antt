use Rattle.std.proofs.Common.{sym, ◌∙◌}
use Rattle.domain_checker.proofs.Emptying.{puts_none, puts_empty}
use Rattle.domain_checker.proofs.ways.put_unlisted.Goals as goal

pub returns-then-set-eq4294967295 : goal.returns-then-set-eq4294967295
returns-then-set-eq4294967295 c = puts_none c.args.kinds.now c.args.set c.args.pool.now.items c.if-set-eq4294967295.true

pub returns-then-not-holds_any : goal.returns-then-not-holds_any
returns-then-not-holds_any c = puts_empty c.args.kinds.now c.args.set c.args.pool.now.items (sym c.holds_any.ensures ∙ c.if-not-holds_any.true)
