use Rattle.std.proofs.Common.{map, sym, ap, ◌∙◌}
use Rattle.rref_heap.specs.HeapValue.{HeapValue}
use Rattle.rref_heap.proofs.Passing.{rooms, seen_as}
use Rattle.rref_heap.specs.HeapValue.{leaves_at}
use Rattle.rref_heap.specs.Changing.{with_leaving, unless}
use Rattle.rref_heap.proofs.Passing.{root_seen}
use Rattle.rref_heap.proofs.Dropping.{leaves_seen}
use Rattle.rref_heap.proofs.heap.Heap.drop_object.Goals as goal

pub drop_object-requires-clause-store : goal.drop_object-requires-clause-store
drop_object-requires-clause-store c = c.self.invariant.0

pub drop_object-requires-clause-root : goal.drop_object-requires-clause-root
drop_object-requires-clause-root c = root_seen c.self.inside.store c.self.inside.ready c.args.self.now c.args.o c.self.view_is c.requires.root

pub drop_object-requires-clause-stays : goal.drop_object-requires-clause-stays
drop_object-requires-clause-stays c = sym (leaves_seen c.self.inside.store.places.spots c.args.o) ∙ (ap (λ (u : HeapValue). leaves_at u.rows c.args.o) c.self.view_is ∙ c.requires.stays)

pub invariant_of-self : goal.invariant_of-self
invariant_of-self c = (c.drop_object.ensures.store, rooms c.self.inside.ready c.self.inside.store c.drop_object.new.self _ c.self.invariant.1 c.drop_object.ensures)

pub returns : goal.returns
returns c = seen_as c.self.inside.ready c.self.inside.store c.drop_object.new.self _ c.args.self.now c.self.view_is c.drop_object.ensures ∙ ap (λ (u : HeapValue). record { rows = map (with_leaving c.args.o) (map (unless c.args.o) u.rows); ready = c.args.self.now.ready; clients = c.args.self.now.clients; instances = c.args.self.now.instances }) c.self.view_is
