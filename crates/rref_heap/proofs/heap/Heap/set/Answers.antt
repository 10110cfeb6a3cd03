use Rattle.std.proofs.Common.{◌≡◌, ℕ, List, length, map, refl, sym, ap, ◌∙◌, subst, arith}
use Rattle.machine_defs.specs.Objects.{overwritten, with_cells}
use Rattle.rref_heap.specs.HeapValue.{HeapValue, cells_at}
use Rattle.rref_heap.specs.Changing.{on_row, with_object}
use Rattle.rref_heap.specs.Spots.{PlacesValue, rows_in, written}
use Rattle.rref_heap.specs.Store.{Becomes, nest_of}
use Rattle.rref_heap.specs.declared.store.Store.{Store}
use Rattle.rref_heap.proofs.Passing.{changed, rooms, seen_as, cells_seen, over_length}
use Rattle.rref_heap.proofs.heap.Heap.set.Goals as goal

pub write-requires : goal.write-requires
write-requires c = λ p is. (let s = c.self.view_is in let r = c.requires in (let e : length p.cells ≡ length (cells_at c.args.self.now.rows c.args.o) = ap (λ (l : List ℕ). length l) (sym (cells_seen c.self.inside.store.places.spots c.args.o p is) ∙ ap (λ (u : HeapValue). cells_at u.rows c.args.o) s) in let w = r.within in omega arith))

abbrev store_after : (s : Store) (v : PlacesValue) → Store
store_after s v = record { places = v; firsts = s.firsts; listing = s.listing; live = s.live }

pub invariant_of-self : goal.invariant_of-self
invariant_of-self c =
    let b = changed c.self.inside.store c.args.o (written c.args.from c.args.values.now) (with_object (with_cells (overwritten c.args.from c.args.values.now))) c.self.invariant.0 (λ q. refl) (λ q is. ap (λ (k : ℕ). record (nest_of q) { width = k }) (over_length c.args.from c.args.values.now q.cells (let s = c.self.view_is in let r = c.requires in let e : length q.cells ≡ length (cells_at c.args.self.now.rows c.args.o) = ap (λ (l : List ℕ). length l) (sym (cells_seen c.self.inside.store.places.spots c.args.o q is) ∙ ap (λ (u : HeapValue). cells_at u.rows c.args.o) s) in let w = r.within in omega arith))) (λ q. refl) (λ q. refl) in
    let b' = subst (λ (v : PlacesValue). Becomes c.self.inside.store (store_after c.self.inside.store v) (map (on_row c.args.o (with_object (with_cells (overwritten c.args.from c.args.values.now)))) (rows_in c.self.inside.store.places.spots))) (sym c.write.ensures) b in
    (b'.store, rooms c.self.inside.ready c.self.inside.store (store_after c.self.inside.store c.write.new.self) _ c.self.invariant.1 b')

pub returns : goal.returns
returns c =
    let b = changed c.self.inside.store c.args.o (written c.args.from c.args.values.now) (with_object (with_cells (overwritten c.args.from c.args.values.now))) c.self.invariant.0 (λ q. refl) (λ q is. ap (λ (k : ℕ). record (nest_of q) { width = k }) (over_length c.args.from c.args.values.now q.cells (let s = c.self.view_is in let r = c.requires in let e : length q.cells ≡ length (cells_at c.args.self.now.rows c.args.o) = ap (λ (l : List ℕ). length l) (sym (cells_seen c.self.inside.store.places.spots c.args.o q is) ∙ ap (λ (u : HeapValue). cells_at u.rows c.args.o) s) in let w = r.within in omega arith))) (λ q. refl) (λ q. refl) in
    let b' = subst (λ (v : PlacesValue). Becomes c.self.inside.store (store_after c.self.inside.store v) (map (on_row c.args.o (with_object (with_cells (overwritten c.args.from c.args.values.now)))) (rows_in c.self.inside.store.places.spots))) (sym c.write.ensures) b in
    seen_as c.self.inside.ready c.self.inside.store (store_after c.self.inside.store c.write.new.self) _ c.args.self.now c.self.view_is b' ∙ ap (λ (u : HeapValue). record { rows = map (on_row c.args.o (with_object (with_cells (overwritten c.args.from c.args.values.now)))) u.rows; ready = c.args.self.now.ready; clients = c.args.self.now.clients; instances = c.args.self.now.instances }) c.self.view_is
