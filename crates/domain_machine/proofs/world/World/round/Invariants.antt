use Rattle.std.proofs.Common.{◌≡◌, ℕ, ◌<◌, false, slice_index}
use Rattle.machine_defs.specs.Runs.{order_of}
use Rattle.machine_defs.specs.Calling.{is_enabled}
use Rattle.turn_order.specs.Rounds.{round_from}
use Rattle.domain_machine.proofs.world.World.round.Given as goal

-- the world is as it was, and nobody is enabled who was passed over
abbrev pub invariant-steps : goal.invariant-steps
invariant-steps l = record {
  same : l.self ≡ l.fn.self;
  passed : (k : ℕ) → k < l.step → is_enabled l.fn.self.load l.fn.self.state (slice_index (round_from (order_of l.fn.self.load) l.place) k) ≡ false;
}
