use Rattle.std.proofs.Common.{rules, ℕ, ◌≤◌, arith}
use Rattle.rref_heads.proofs.StepsAllowed.{ends}
use Rattle.rref_heads.proofs.table.Heads.end.Goals as goal

pub fetch_add-was-requires : goal.fetch_add-was-requires
fetch_add-was-requires c = let t = c.args.self.now in let h : ℕ = c.args.h in let own = c.requires.own.1 in let low : h ≤ t.heads = own.1 in let key = t.keyed.0 in let one = c.args.pass.now.rests.1 in (
  search rules,
  search rules,
  ends t.table.shared.key c.args.pass.now.seat.id h own.0 (omega arith) c.args.pass.now.seat.me _ (omega arith) c.requires.title,
)
