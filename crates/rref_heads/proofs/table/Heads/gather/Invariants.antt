use Rattle.std.proofs.Common.{◌≡◌, ℕ, ◌+◌, [], length}
use Rattle.machine_defs.specs.Heads.{Kind, how_many}
use Rattle.rref_heads.specs.Passes.{AreEmpty, sum_over}
use Rattle.rref_heads.proofs.table.Heads.gather.Given as goal

abbrev pub invariant-loop-pass : goal.invariant-loop-pass
invariant-loop-pass l = (l.seat.table_id ≡ l.self.table.shared.table_id) × (l.seat.me.1 ≡ []) × (l.seat.me.0.passes + length l.passes.items ≡ length l.fn.passes.items) × AreEmpty l.self l.passes.items
    × ((k : Kind) (h : ℕ) → how_many k h l.seat.me.0 + sum_over k h l.passes.items ≡ sum_over k h l.fn.passes.items)

abbrev pub decreases-loop-pass : goal.decreases-loop-pass
decreases-loop-pass l = length l.passes.items
