use Rattle.std.proofs.Common.{◌≡◌, ℕ, ◌+◌, ◌∙◌, List, [], ◌∷◌, ◌++◌, length, sym, ap, ap₂, subst}
use Rattle.rref_heads.specs.declared.table.Pass.{Pass}
use Rattle.rref_heads.specs.Passes.{AreEmpty, IsClosed}
use Rattle.heads_command.proofs.Counts.{gone_two}
use Rattle.heads_command.proofs.run.give_up_all.Goals as goal

pub returns-clause-words : goal.returns-clause-words
returns-clause-words g c = let n : ℕ = c.in_ok-table.table.heads in let same = c.in_ok-table.ensures.0 in let p : Pass = c.join-one.result.0.0 in let q : Pass = c.join-one.result.1.0 in let one = c.join-one.ensures.first in let two = c.join-one.ensures.second in
    let ps : c.push_reserved-2.new.self.items ≡ p ∷ q ∷ [] = c.push_reserved-2.ensures.items ∙ ap (λ (l : List Pass). l ++ q ∷ []) (c.push_reserved.ensures.items ∙ ap (λ (l : List Pass). l ++ p ∷ []) c.in_ok-passes.ensures.items) in record {
      table = c.in_ok-table.table;
      passes = c.push_reserved-2.new.self.items;
      payloads = c.in_ok-closed.closed.payloads;
      wide = same;
      two = ap length ps;
      empty = subst (AreEmpty c.in_ok-table.table) (sym ps) (one.0, one.1, (two.0, two.1, tt));
      closed = subst (λ (m : ℕ). IsClosed m c.push_reserved-2.new.self.items c.in_ok-closed.closed.words c.in_ok-closed.closed.payloads) same c.in_ok-closed.ensures.heads;
      rule = c.in_ok-closed.ensures.rule;
    }

pub returns-clause-returned : goal.returns-clause-returned
returns-clause-returned g c = let n : ℕ = c.in_ok-table.table.heads in let same = c.in_ok-table.ensures.0 in let p : Pass = c.join-one.result.0.0 in let q : Pass = c.join-one.result.1.0 in let one = c.join-one.ensures.first in let two = c.join-one.ensures.second in
    let ps : c.push_reserved-2.new.self.items ≡ p ∷ q ∷ [] = c.push_reserved-2.ensures.items ∙ ap (λ (l : List Pass). l ++ q ∷ []) (c.push_reserved.ensures.items ∙ ap (λ (l : List Pass). l ++ p ∷ []) c.in_ok-passes.ensures.items) in ap₂ (λ (x y : ℕ). x + y) (sym one.2.0) (sym two.2.0) ∙ gone_two n p q _ c.in_ok-closed.closed.words c.in_ok-closed.closed.payloads ps c.in_ok-closed.ensures.heads one.2.1 two.2.1
