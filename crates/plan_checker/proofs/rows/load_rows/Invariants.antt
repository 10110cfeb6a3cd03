use Rattle.std.specs.List.{flat_map}
use Rattle.rl_defs.specs.LoadOf.{loads_in}
use Rattle.plan_checker.proofs.Gathering.{Gathers}
use Rattle.plan_checker.proofs.rows.load_rows.Given as goal

abbrev pub invariant-lines : goal.invariant-lines
invariant-lines l = Gathers (flat_map (λ x. loads_in l.tables x.form)) l.lines l.line-index l.rows
