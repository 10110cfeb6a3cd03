use Rattle.std.proofs.Common.{◌≡◌, ◌-◌, [], length}
use Rattle.machine_defs.specs.Heads.{empty}
use Rattle.rref_heads.specs.Passes.{AreFresh}
use Rattle.rref_heads.proofs.table.Heads.deal.Given as goal

abbrev pub invariant-loop-number : goal.invariant-loop-number
invariant-loop-number l = (l.seat.table_id ≡ l.self.table.shared.table_id) × (l.seat.me ≡ (empty (l.self.seats - l.number), [])) × (length l.passes.items ≡ l.number) × AreFresh l.self 0 l.passes.items
