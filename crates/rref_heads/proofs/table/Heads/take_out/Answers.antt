use Rattle.std.proofs.Common.{rules, ℕ, ◌-◌, ◌≤◌, List, ◌∷◌, Some, None, sym, ap, ◌∙◌, arith}
use Rattle.atomic_table.specs.Table.{rest}
use Rattle.machine_defs.specs.Heads.{Slot}
use Rattle.rref_heads.proofs.StepsAllowed.{releases_at}
use Rattle.rref_heads.proofs.table.Heads.take_out.Goals as goal

pub exchange-payload-requires : goal.exchange-payload-requires
exchange-payload-requires c = let h : ℕ = c.args.word in let held = c.requires.held in
    (search rules, (Some held.0, held.1 ∙ ap (λ (xs : List (ℕ × Slot)). (h - 1, Some held.0) ∷ xs) (sym (ap rest held.1))))

pub store-requires : goal.store-requires
store-requires c = let t = c.args.self.now in let h : ℕ = c.args.word in let own = c.requires.own in let low : h ≤ t.heads = own.1.1 in let key = t.keyed.0 in let v = c.args.seat.now.me.0 in (
  search rules,
  search rules,
  releases_at t.table.shared.key _ h own.1.0 (omega arith) _ v _ (c.exchange-payload.ensures.3 ∙ ap (λ (xs : List (ℕ × Slot)). (v, (h - 1, None) ∷ rest xs)) c.requires.held.1) own.2 c.requires.right,
)
