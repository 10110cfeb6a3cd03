use Rattle.std.proofs.Common.{map}
use Rattle.rl_defs.specs.LoadOf.{target_number, bound_to}
use Rattle.plan_checker.proofs.Gathering.{Gathers}
use Rattle.plan_checker.proofs.rows.binds_of.Given as goal

abbrev pub invariant-imports : goal.invariant-imports
invariant-imports l = Gathers (map (λ import. target_number l.tables (bound_to l.tables l.load import))) l.imports l.import-index l.binds
