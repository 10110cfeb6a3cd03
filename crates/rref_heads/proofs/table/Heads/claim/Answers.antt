use Rattle.std.proofs.Common.{rules, ℕ, ◌-◌, ◌≤◌, List, ◌∷◌, Some, ap, ◌∙◌, arith}
use Rattle.atomic_table.specs.Table.{rest}
use Rattle.machine_defs.specs.declared.heads.HeadWord.TheVariants.{Busy}
use Rattle.machine_defs.specs.declared.heads.View.{View}
use Rattle.machine_defs.specs.HeadSteps.{looked, claiming}
use Rattle.rref_heads.specs.Plays.{Seated}
use Rattle.machine_defs.specs.Heads.{Slot}
use Rattle.rref_heads.proofs.StepsAllowed.{claims, publishes_at, has_head}
use Rattle.rref_heads.proofs.table.Heads.claim.Goals as goal

pub compare_exchange-was-requires : goal.compare_exchange-was-requires
compare_exchange-was-requires c = let t = c.args.self.now in let h : ℕ = c.args.h in let own = c.requires.own.1 in let low : h ≤ t.heads = own.1 in let key = t.keyed.0 in
    let one = c.args.pass.now.rests.1 in (
      search rules,
      search rules,
      claims t.table.shared.key c.args.pass.now.seat.id h own.0 (omega arith) c.args.pass.now.seat.me _ (omega arith),
    )

pub store-requires : goal.store-requires
store-requires c = let t = c.args.self.now in let h : ℕ = c.args.h in let own = c.requires.own.1 in let low : h ≤ t.heads = own.1 in let key = t.keyed.0 in
    let was = c.compare_exchange-was.ensures.2 in let old = c.args.pass.now.seat.me in let v : View = claiming h (looked h was.0 Busy old.0) in let l : List ℕ = c.args.payload in
    let hit = (was.3 c.if-was-ne-VACANT.false).2 in let one = c.args.pass.now.rests.1 in (
      search rules,
      search rules,
      publishes_at t.table.shared.key _ h own.0 (omega arith) _ v l _
          (c.exchange.ensures.3 ∙ ap (λ (m : Seated). (m.0, (h - 1, Some l) ∷ rest m.1)) hit ∙ ap (λ (xs : List (ℕ × Slot)). (v, (h - 1, Some l) ∷ xs)) c.args.pass.now.rests.0)
          (omega arith) (has_head h old.0.claims),
    )
