use Rattle.std.proofs.Common.{◌≡◌, map, drop}
use Rattle.rl_defs.specs.Interfaces.{place_of}
use Rattle.code_runs.proofs.Named.{shifted}
use Rattle.code_runs.proofs.rows.place_of.Given as goal

abbrev pub invariant-rows : goal.invariant-rows
invariant-rows g l = place_of l.name (map g.T.Named.name_of l.rows) ≡ shifted l.place (place_of l.name (map g.T.Named.name_of (drop l.place l.rows)))
