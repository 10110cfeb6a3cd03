use Rattle.std.proofs.Common.{map}
use Rattle.rl_defs.specs.LoadOf.{number_in}
use Rattle.plan_checker.proofs.Gathering.{GathersBehind}
use Rattle.plan_checker.proofs.rows.put_clients.Given as goal

abbrev pub invariant-names : goal.invariant-names
invariant-names l = GathersBehind (map (λ name. number_in name l.clients)) l.names l.name-index l.fn.order l.order
