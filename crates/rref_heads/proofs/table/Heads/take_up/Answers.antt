use Rattle.std.proofs.Common.{rules, ℕ, ◌≤◌, arith}
use Rattle.rref_heads.proofs.StepsAllowed.{takes_up_seen}
use Rattle.rref_heads.proofs.table.Heads.take_up.Goals as goal

pub compare_exchange-was-requires : goal.compare_exchange-was-requires
compare_exchange-was-requires c = let t = c.args.self.now in let h : ℕ = c.args.h in let own = c.requires.own.1 in let low : h ≤ t.heads = own.1 in let key = t.keyed.0 in let one = c.args.pass.now.rests.1 in (
  search rules,
  search rules,
  takes_up_seen t.table.shared.key c.args.pass.now.seat.id h own.0 (omega arith) c.args.seen c.args.pass.now.number c.args.pass.now.seat.me _ _ c.requires.seen c.args.pass.now.low c.number_of-old.ensures (omega arith),
)
