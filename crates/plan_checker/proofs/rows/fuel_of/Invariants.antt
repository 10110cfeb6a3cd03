use Rattle.std.proofs.Common.{[]}
use Rattle.std.specs.List.{flat_map}
use Rattle.rl_defs.specs.LoadOf.{fuel_in}
use Rattle.plan_checker.proofs.Gathering.{Gathers}
use Rattle.plan_checker.proofs.rows.fuel_of.Given as goal

abbrev pub invariant-lines : goal.invariant-lines
invariant-lines l = Gathers (flat_map (λ x. fuel_in x.form)) l.lines l.line-index []
