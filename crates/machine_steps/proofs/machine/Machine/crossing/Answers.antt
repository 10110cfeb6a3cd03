use Rattle.std.proofs.Common.{◌<◌, ◌≤◌, length, sym, subst}
use Rattle.machine_steps.specs.Kept.{Kept}
use Rattle.proxies.specs.Crossing.{IsCrossing}
use Rattle.machine_steps.proofs.Settling.{stack_there}
use Rattle.machine_steps.proofs.Choosing.{crossing_same}
use Rattle.machine_steps.proofs.machine.Machine.crossing.Goals as goal

pub crossing_of-requires-clause-a_client : goal.crossing_of-requires-clause-a_client
crossing_of-requires-clause-a_client c = stack_there c.self.invariant c.args.t (subst (λ (w : Kept). (0 < c.args.t) × (c.args.t ≤ length w.load.clients)) (sym c.self.view_is) c.requires.a_client)

pub returns : goal.returns
returns c = subst (λ (w : Kept). IsCrossing w.load w.state c.args.t c.args.target c.crossing_of.result) c.self.view_is (crossing_same c.self.inside c.args.t c.args.target c.crossing_of.result c.crossing_of.ensures)
