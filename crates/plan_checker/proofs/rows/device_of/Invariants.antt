use Rattle.std.proofs.Common.{[]}
use Rattle.std.specs.List.{flat_map}
use Rattle.rl_defs.specs.LoadOf.{device_in, blocks_in}
use Rattle.plan_checker.proofs.Gathering.{Gathers}
use Rattle.plan_checker.proofs.rows.device_of.Given as goal

abbrev pub invariant-lines : goal.invariant-lines
invariant-lines l = record {
  loads : Gathers (flat_map (λ x. device_in l.tables x.form)) l.lines l.line-index [];
  blocks : Gathers (flat_map (λ x. blocks_in x.form)) l.lines l.line-index [];
}
