use Rattle.std.proofs.Common.{rules, ◌≡◌, ℕ, ◌+◌, ◌<◌, ◌∙◌, Bool, false, List, [], ◌∷◌, ◌++◌, get_or, set, sym, ap, arith, get_or-set_other}
use Rattle.std.specs.Mem.Slots.{slots_items, slots_filled}
use mathlib.Core.Logic.{dite}
use mathlib.Core.Option.{some}
use native.Mathlib.Decide.{ℕ_discrete}
use lib.ListN.{get_elem?}
use Rattle.machine_defs.specs.Heads.{Slot}
use Rattle.rref_heads.proofs.LastState.{push_each, unset_here}
use Rattle.rref_heads.proofs.emptied.take_payloads.Goals as goal

pub loop-i-preserved : goal.loop-i-preserved
loop-i-preserved c = let n : ℕ = c.loop-i.i in let inv = c.loop-i.invariant in let grown = c.push_reserved.ensures.items in let others = c.take.ensures.others in let fs : List Bool = slots_filled c.loop-i.closed.slots in
    let xs : List Slot = slots_items c.args.closed.now.slots in
    let all : (j : ℕ) → j < n + 1 → (o : Slot) × (get_elem? (c.loop-i.payloads.items ++ c.take.result ∷ []) j ≡ some o) × (get_elem? xs j ≡ some o) =
    push_each (λ (j : ℕ) (o : Slot). get_elem? xs j ≡ some o) c.loop-i.payloads.items n c.take.result inv.0 inv.6 (ap (λ l. get_elem? l n) (sym inv.2) ∙ c.take.ensures.value) in (
      search rules,
      search rules,
      others.0 ∙ inv.2,
      others.2 ∙ inv.3,
      (λ j le. ap (λ l. get_or l j false) others.1 ∙ dite (ℕ_discrete j n) (λ e. ap (λ (z : ℕ). get_or (set fs n false) z false) e ∙ unset_here fs n) (λ ne. get_or-set_other fs n j false false ne ∙ inv.4 j (omega arith))),
      (λ j le lt. ap (λ l. get_or l j false) others.1 ∙ get_or-set_other fs n j false false (λ e. omega arith) ∙ inv.5 j (omega arith) lt),
      (λ j le. let x = all j le in (x.0, ap (λ l. get_elem? l j) grown ∙ x.1, x.2)),
    )
