use Rattle.std.proofs.Common.{◌≡◌, ◌==◌, ◌&&◌, ℕ, map, refl, sym, ap, ◌∙◌, subst, arith}
use Rattle.rref_heap.specs.HeapValue.{HeapValue, loans_at}
use Rattle.rref_heap.specs.Changing.{on_row, leaving_if}
use Rattle.rref_heap.specs.Spots.{PlacesValue, rows_in, on_spot}
use Rattle.rref_heap.specs.Store.{Becomes, IsStore}
use Rattle.rref_heap.specs.declared.store.Store.{Store}
use Rattle.rref_heap.proofs.Passing.{changed, rooms, seen_as, loans_seen}
use Rattle.rref_heap.specs.Changing.{one_loan_less}
use Rattle.rref_heap.specs.Spots.{one_fewer}
use Rattle.rref_heap.proofs.Passing.{root_kept, then_listed, spot_there}
use Rattle.rref_heap.proofs.heap.Heap.give_back.Goals as goal

pub give_back-free-requires : goal.give_back-free-requires
give_back-free-requires c = λ p is. (let s = c.self.view_is in let r = c.requires in let e : p.loans ≡ loans_at c.args.self.now.rows c.args.o = sym (loans_seen c.self.inside.store.places.spots c.args.o p is) ∙ ap (λ (u : HeapValue). loans_at u.rows c.args.o) s in let lent = r.lent in omega arith)

abbrev store_after : (s : Store) (v : PlacesValue) → Store
store_after s v = record { places = v; firsts = s.firsts; listing = s.listing; live = s.live }

one_less : (s : Store) (o : ℕ) (v : PlacesValue) → IsStore s → v ≡ record { spots = map (on_spot o one_fewer) s.places.spots; spare = s.places.spare } → Becomes s (store_after s v) (map (on_row o one_loan_less) (rows_in s.places.spots))
one_less s o v h is = subst (λ (u : PlacesValue). Becomes s (store_after s u) (map (on_row o one_loan_less) (rows_in s.places.spots))) (sym is) (changed s o one_fewer one_loan_less h (λ q. refl) (λ q there. refl) (λ q. refl) (λ q. refl))

pub list_if-requires-clause-store : goal.list_if-requires-clause-store
list_if-requires-clause-store c = (one_less c.self.inside.store c.args.o c.give_back-free.new.self c.self.invariant.0 c.give_back-free.ensures.loans).store

pub list_if-requires-clause-root : goal.list_if-requires-clause-root
list_if-requires-clause-root c = root_kept c.self.inside.store (store_after c.self.inside.store c.give_back-free.new.self) c.self.inside.ready c.args.self.now c.args.o one_loan_less c.self.view_is (λ r e. e) c.requires.root (one_less c.self.inside.store c.args.o c.give_back-free.new.self c.self.invariant.0 c.give_back-free.ensures.loans)

pub invariant_of-self : goal.invariant_of-self
invariant_of-self c =
    let a = one_less c.self.inside.store c.args.o c.give_back-free.new.self c.self.invariant.0 c.give_back-free.ensures.loans in
    let b = then_listed c.self.inside.store (store_after c.self.inside.store c.give_back-free.new.self) c.list_if.new.self c.give_back-free.result c.args.o _ a c.list_if.ensures in
    (b.store, rooms c.self.inside.ready c.self.inside.store c.list_if.new.self _ c.self.invariant.1 b)

pub returns-clause-returned : goal.returns-clause-returned
returns-clause-returned c =
    let a = one_less c.self.inside.store c.args.o c.give_back-free.new.self c.self.invariant.0 c.give_back-free.ensures.loans in
    let b = then_listed c.self.inside.store (store_after c.self.inside.store c.give_back-free.new.self) c.list_if.new.self c.give_back-free.result c.args.o _ a c.list_if.ensures in
    seen_as c.self.inside.ready c.self.inside.store c.list_if.new.self _ c.args.self.now c.self.view_is b ∙ ap (λ (u : HeapValue). record { rows = leaving_if c.give_back-free.result c.args.o (map (on_row c.args.o one_loan_less) u.rows); ready = c.args.self.now.ready; clients = c.args.self.now.clients; instances = c.args.self.now.instances }) c.self.view_is

pub returns-clause-free : goal.returns-clause-free
returns-clause-free c =
    let p = spot_there c.self.inside.store c.self.inside.ready c.args.self.now c.args.o c.self.view_is c.requires.root in
    c.give_back-free.ensures.free p.0 p.1 ∙ ap (λ (k : ℕ). c.args.ended && (k == 1)) (sym (loans_seen c.self.inside.store.places.spots c.args.o p.0 p.1) ∙ ap (λ (u : HeapValue). loans_at u.rows c.args.o) c.self.view_is)
