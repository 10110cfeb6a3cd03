use Rattle.std.proofs.Common.{◌≡◌, ◌∙◌, ℕ, ◌≤◌, ◌-◌, true, get_or, length, refl, arith}
use Rattle.std.proofs.lemmas.List.{length-set}
use Rattle.turn_order.proofs.Naming.{named_more}
use Rattle.turn_order.proofs.order.named_by.Goals as goal

pub clients-preserved : goal.clients-preserved
clients-preserved c = record {
  named = λ (t : ℕ) (low : 1 ≤ t) (high : t ≤ 16).
      let within : (1 ≤ get_or c.args.order.now c.clients.client-index 0) × (get_or c.args.order.now c.clients.client-index 0 ≤ 16) =
      c.requires c.clients.client-index 0 c.clients-test.true in
      let many : length c.clients.named ≡ 16 = c.clients.invariant.count in
      named_more c.clients.named c.args.order.now c.clients.client-index t (get_or c.args.order.now c.clients.client-index 0) refl
      c.clients-test.true within.0 (omega arith) low (c.clients.invariant.named t low high);
  count = length-set _ _ _ ∙ c.clients.invariant.count;
}
