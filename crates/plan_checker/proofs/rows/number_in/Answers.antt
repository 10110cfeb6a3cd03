use Rattle.std.proofs.Common.{sym, ◌∙◌, arith}
use Rattle.plan_checker.proofs.Placing.{place_within}
use Rattle.plan_checker.proofs.rows.number_in.Goals as goal

pub overflow_add-result : goal.overflow_add-result
overflow_add-result c = omega (arith, c.requires, place_within c.args.name.now c.args.names.now c.in-Some.place (sym c.place.ensures ∙ c.in-Some.is))
