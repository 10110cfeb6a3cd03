use Rattle.std.proofs.Common.{rules, ℕ, ◌≤◌, arith, refl}
use Rattle.rref_heads.proofs.StepsAllowed.{lends_seen}
use Rattle.rref_heads.proofs.table.Heads.lend.Goals as goal

pub compare_exchange-was-requires : goal.compare_exchange-was-requires
compare_exchange-was-requires c = let t = c.args.self.now in let h : ℕ = c.args.h in let own = c.requires.own.1 in let low : h ≤ t.heads = own.1 in let key = t.keyed.0 in let one = c.args.pass.now.rests.1 in (
  search rules,
  search rules,
  lends_seen t.table.shared.key c.args.pass.now.seat.id h own.0 (omega arith) c.args.seen c.args.pass.now.seat.me _ _ _ c.requires.seen c.number_of-old.ensures refl (omega arith),
)
