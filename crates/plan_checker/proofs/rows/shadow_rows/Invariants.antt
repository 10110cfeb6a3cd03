use Rattle.std.specs.List.{flat_map}
use Rattle.rl_defs.specs.LoadOf.{shadows_in}
use Rattle.plan_checker.proofs.Gathering.{Gathers}
use Rattle.plan_checker.proofs.rows.shadow_rows.Given as goal

abbrev pub invariant-lines : goal.invariant-lines
invariant-lines l = Gathers (flat_map (λ x. shadows_in l.tables x.form)) l.lines l.line-index l.rows
