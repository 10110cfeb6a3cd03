use Rattle.std.proofs.Common.{rules, ℕ, ◌≤◌, arith}
use Rattle.rref_heads.proofs.StepsAllowed.{gives_back}
use Rattle.rref_heads.proofs.table.Heads.give_back.Goals as goal

pub fetch_sub-was-requires : goal.fetch_sub-was-requires
fetch_sub-was-requires c = let t = c.args.self.now in let h : ℕ = c.args.h in let own = c.requires.own.1 in let low : h ≤ t.heads = own.1 in let key = t.keyed.0 in let one = c.args.pass.now.rests.1 in (
  search rules,
  search rules,
  gives_back t.table.shared.key c.args.pass.now.seat.id h own.0 (omega arith) c.args.pass.now.seat.me _ (omega arith) c.requires.loan,
)
