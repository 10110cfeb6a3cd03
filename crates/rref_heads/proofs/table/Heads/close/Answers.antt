use Rattle.std.proofs.Common.{ℕ, suc, ◌<◌, ◌∙◌, length, sym, ap, subst, arith}
use Rattle.std.specs.Mem.Slots.{slots_items}
use lib.ListN.{get_elem?}
use Rattle.machine_defs.specs.declared.heads.Size.{Size}
use Rattle.machine_defs.specs.Heads.{HeadRule}
use Rattle.rref_heads.specs.Passes.{closed_table}
use Rattle.rref_heads.proofs.PassLists.{none_held}
use Rattle.rref_heads.proofs.ClosedTables.{closing}
use Rattle.rref_heads.proofs.LastState.{last_words, last_head}
use Rattle.rref_heads.proofs.table.Heads.close.Goals as goal

pub read_words-requires-clause-shown : goal.read_words-requires-clause-shown
read_words-requires-clause-shown c i near = let t = c.args.self in let last = c.close_with-closed.ensures.values.2 in let key = t.keyed.0 in
    last_words t.table.shared.key last.0 last.1.0 (slots_items c.close_with-closed.result.words) last.2 i (omega arith)

pub returns-clause-heads : goal.returns-clause-heads
returns-clause-heads c = let t = c.args.self in let last = c.close_with-closed.ensures.values.2 in let key = t.keyed.0 in let many = t.keyed.1 in let few = t.few.1 in let seat = c.gather-seat.ensures in let ws = c.read_words.ensures in let ps = c.take_payloads.ensures in (
  ap length c.from_vec.ensures ∙ ws.length,
  ap length c.from_vec-2.ensures ∙ ps.length,
  (λ i near. let a = ws.each i near in let o = ps.each i near in let none = none_held t c.args.passes.items (suc i) c.requires.1 in
      let x = last_head t.table.shared.key last.0 last.1.0 c.gather-seat.result.id c.gather-seat.result.me.0 last.1.1 (seat.seat.2 ∙ c.requires.0 ∙ sym t.keyed.1) (slots_items c.close_with-closed.result.words) (slots_items c.close_with-closed.result.slots)
      last.2 last.4 c.args.passes.items i (λ k. seat.sums k (suc i)) none.claims none.rights (omega arith) a.0 a.2 a.3 o.0 o.2 in
      (a.0, o.0, ap (λ l. get_elem? l i) c.from_vec.ensures ∙ a.1, ap (λ l. get_elem? l i) c.from_vec-2.ensures ∙ o.1, x.0, x.1)),
)

pub returns-clause-rule : goal.returns-clause-rule
returns-clause-rule c = let t = c.args.self in let last = c.close_with-closed.ensures.values.2 in let key = t.keyed.0 in let many = t.keyed.1 in let few = t.few.1 in let seat = c.gather-seat.ensures in let ws = c.read_words.ensures in let ps = c.take_payloads.ensures in
    subst (λ (size : Size). HeadRule size (closed_table c.from_vec.result c.from_vec-2.result c.args.passes.items)) (λ i. record { heads = key i; seats = many i })
    (closing t.table.shared.key t c.args.passes.items c.from_vec.result c.from_vec-2.result (omega arith) (c.requires.0 ∙ sym many) c.requires.1 (ap length c.from_vec.ensures ∙ ws.length ∙ sym key) (ap length c.from_vec-2.ensures ∙ ps.length ∙ sym key)
    (λ i near. let near' : i < t.heads = subst (λ (z : ℕ). i < z) key near in let a = ws.each i near' in let o = ps.each i near' in let none = none_held t c.args.passes.items (suc i) c.requires.1 in
    let x = last_head t.table.shared.key last.0 last.1.0 c.gather-seat.result.id c.gather-seat.result.me.0 last.1.1 (seat.seat.2 ∙ c.requires.0 ∙ sym t.keyed.1) (slots_items c.close_with-closed.result.words) (slots_items c.close_with-closed.result.slots)
    last.2 last.4 c.args.passes.items i (λ k. seat.sums k (suc i)) none.claims none.rights near a.0 a.2 a.3 o.0 o.2 in
    (a.0, o.0, ap (λ l. get_elem? l i) c.from_vec.ensures ∙ a.1, ap (λ l. get_elem? l i) c.from_vec-2.ensures ∙ o.1, x.0, x.2, x.3)))
