use Rattle.std.proofs.Common.{rules, ℕ, ◌+◌, ◌*◌, ◌<◌, ◌≤◌, arith, ap}
use Rattle.rref_heads.proofs.StepsAllowed.{passes_on}
use Rattle.rref_heads.proofs.table.Heads.add_receiver.Goals as goal

pub fetch_add-requires : goal.fetch_add-requires
fetch_add-requires c = let t = c.args.self.now in let h : ℕ = c.args.h in let own = c.requires.own.1 in let low : h ≤ t.heads = own.1 in let key = t.keyed.0 in let many = t.keyed.1 in let one = c.args.pass.now.rests.1 in
    let to : ℕ = c.args.receiver in let below : to < t.seats = c.requires.to in (
      search rules,
      search rules,
      passes_on t.table.shared.key c.args.pass.now.seat.id h own.0 (omega arith) c.args.pass.now.seat.me to _ _ (omega arith) c.requires.title (omega arith) (ap (λ (z : ℕ). 524288 * (z + 1)) c.from.ensures),
    )
