use Rattle.std.specs.List.{flat_map}
use Rattle.plan_checker.specs.Rows.{order_with}
use Rattle.plan_checker.proofs.Gathering.{Gathers}
use Rattle.plan_checker.proofs.rows.order_rows.Given as goal

abbrev pub invariant-lines : goal.invariant-lines
invariant-lines l = Gathers (flat_map (λ x. order_with l.clients x.form)) l.lines l.line-index l.order
