use Rattle.std.proofs.Common.{◌≡◌, map, refl, sym, ap, ◌∙◌, subst, arith}
use Rattle.rref_heap.specs.HeapValue.{HeapValue, loans_at}
use Rattle.rref_heap.specs.Changing.{on_row, one_loan_more}
use Rattle.rref_heap.specs.Spots.{PlacesValue, rows_in, one_more}
use Rattle.rref_heap.specs.Store.{Becomes}
use Rattle.rref_heap.specs.declared.store.Store.{Store}
use Rattle.rref_heap.proofs.Passing.{changed, rooms, seen_as, loans_seen}
use Rattle.rref_heap.proofs.heap.Heap.lend.Goals as goal

pub lend-requires : goal.lend-requires
lend-requires c = λ p is. (let s = c.self.view_is in let r = c.requires in (let e : p.loans ≡ loans_at c.args.self.now.rows c.args.o = sym (loans_seen c.self.inside.store.places.spots c.args.o p is) ∙ ap (λ (u : HeapValue). loans_at u.rows c.args.o) s in let few = r.few in omega arith))

abbrev store_after : (s : Store) (v : PlacesValue) → Store
store_after s v = record { places = v; firsts = s.firsts; listing = s.listing; live = s.live }

pub invariant_of-self : goal.invariant_of-self
invariant_of-self c =
    let b = changed c.self.inside.store c.args.o one_more one_loan_more c.self.invariant.0 (λ q. refl) (λ q is. refl) (λ q. refl) (λ q. refl) in
    let b' = subst (λ (v : PlacesValue). Becomes c.self.inside.store (store_after c.self.inside.store v) (map (on_row c.args.o one_loan_more) (rows_in c.self.inside.store.places.spots))) (sym c.lend.ensures) b in
    (b'.store, rooms c.self.inside.ready c.self.inside.store (store_after c.self.inside.store c.lend.new.self) _ c.self.invariant.1 b')

pub returns : goal.returns
returns c =
    let b = changed c.self.inside.store c.args.o one_more one_loan_more c.self.invariant.0 (λ q. refl) (λ q is. refl) (λ q. refl) (λ q. refl) in
    let b' = subst (λ (v : PlacesValue). Becomes c.self.inside.store (store_after c.self.inside.store v) (map (on_row c.args.o one_loan_more) (rows_in c.self.inside.store.places.spots))) (sym c.lend.ensures) b in
    seen_as c.self.inside.ready c.self.inside.store (store_after c.self.inside.store c.lend.new.self) _ c.args.self.now c.self.view_is b' ∙ ap (λ (u : HeapValue). record { rows = map (on_row c.args.o one_loan_more) u.rows; ready = c.args.self.now.ready; clients = c.args.self.now.clients; instances = c.args.self.now.instances }) c.self.view_is
