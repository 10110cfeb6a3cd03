-- What an owner leaves behind is listed and then swept.
use Rattle.std.proofs.Common.{◌≡◌, ◌+◌, ◌≤◌, ◌++◌, ℕ, List, [], length, map, sym, ap, ◌∙◌, subst, arith}
use Rattle.machine_defs.specs.declared.values.Owner.TheVariants as owner
use Rattle.machine_defs.specs.declared.entry.Entry.TheVariants as entry
use Rattle.rref_heap.specs.HeapValue.{HeapValue}
use Rattle.rref_heap.specs.Leaving.{leaving_in, left_by, rows_without, roots_of}
use Rattle.rref_heap.proofs.HeapSteps.{seen_change, heap_kept}
use Rattle.rref_heap.proofs.OwnerEnds.{owner_ended, owner_leaving}
use Rattle.rref_heap.proofs.heap.Heap.end_owner.Goals as goal

pub sweep_counted-requires-clause-spare : goal.sweep_counted-requires-clause-spare
sweep_counted-requires-clause-spare g c = subst (λ (xs : List ℕ). length xs ≤ c.args.log.now.spare) (sym (owner_leaving c.self.inside.store c.list_left.new.self (owner.Instance c.args.i) (subst (λ (v : HeapValue). leaving_in v.rows ≡ []) (sym c.self.view_is) c.requires.swept) c.list_left.ensures.becomes ∙ ap (λ (v : HeapValue). left_by v.rows (owner.Instance c.args.i)) c.self.view_is)) c.requires.room

pub invariant_of-self : goal.invariant_of-self
invariant_of-self g c = heap_kept c.self.inside.ready c.self.inside.store c.sweep_counted.new.self _ c.self.invariant (owner_ended c.self.inside.store c.list_left.new.self c.sweep_counted.new.self (owner.Instance c.args.i) (subst (λ (v : HeapValue). leaving_in v.rows ≡ []) (sym c.self.view_is) c.requires.swept) c.list_left.ensures.becomes c.sweep_counted.ensures.becomes)

pub returns-clause-rows : goal.returns-clause-rows
returns-clause-rows g c = seen_change c.self.inside.ready c.self.inside.store c.sweep_counted.new.self (λ rows. rows_without rows (owner.Instance c.args.i)) c.args.self.now c.self.view_is (owner_ended c.self.inside.store c.list_left.new.self c.sweep_counted.new.self (owner.Instance c.args.i) (subst (λ (v : HeapValue). leaving_in v.rows ≡ []) (sym c.self.view_is) c.requires.swept) c.list_left.ensures.becomes c.sweep_counted.ensures.becomes)

pub returns-clause-log : goal.returns-clause-log
returns-clause-log g c = subst (λ (xs : List ℕ). c.sweep_counted.new.log.entries ≡ c.args.log.now.entries ++ map entry.Free xs) (owner_leaving c.self.inside.store c.list_left.new.self (owner.Instance c.args.i) (subst (λ (v : HeapValue). leaving_in v.rows ≡ []) (sym c.self.view_is) c.requires.swept) c.list_left.ensures.becomes ∙ ap (λ (v : HeapValue). left_by v.rows (owner.Instance c.args.i)) c.self.view_is) c.sweep_counted.ensures.log

pub returns-clause-spare : goal.returns-clause-spare
returns-clause-spare g c = subst (λ (xs : List ℕ). c.sweep_counted.new.log.spare + length xs ≡ c.args.log.now.spare) (owner_leaving c.self.inside.store c.list_left.new.self (owner.Instance c.args.i) (subst (λ (v : HeapValue). leaving_in v.rows ≡ []) (sym c.self.view_is) c.requires.swept) c.list_left.ensures.becomes ∙ ap (λ (v : HeapValue). left_by v.rows (owner.Instance c.args.i)) c.self.view_is) c.sweep_counted.ensures.spare

pub returns-clause-steps : goal.returns-clause-steps
returns-clause-steps g c =
    let left = ap length (owner_leaving c.self.inside.store c.list_left.new.self (owner.Instance c.args.i) (subst (λ (v : HeapValue). leaving_in v.rows ≡ []) (sym c.self.view_is) c.requires.swept) c.list_left.ensures.becomes ∙ ap (λ (v : HeapValue). left_by v.rows (owner.Instance c.args.i)) c.self.view_is) in
    let roots = ap (λ (v : HeapValue). length (roots_of v.rows (owner.Instance c.args.i))) c.self.view_is in
    let counted = c.sweep_counted.ensures.steps in
    let listed = c.list_left.ensures.steps in
    omega (arith, left, roots, counted, listed)
