use Rattle.std.proofs.Common.{map, refl, ap, ◌∙◌}
use Rattle.machine_defs.specs.Objects.{owned_by}
use Rattle.rref_heap.specs.HeapValue.{HeapValue}
use Rattle.rref_heap.specs.Changing.{on_object, with_object, leaving_if}
use Rattle.rref_heap.proofs.Passing.{rooms, seen_as, may_own}
use Rattle.rref_heap.proofs.Passing.{root_seen, root_kept, then_listed}
use Rattle.rref_heap.proofs.heap.Heap.pass.Goals as goal

pub pass-requires-clause-store : goal.pass-requires-clause-store
pass-requires-clause-store c = c.self.invariant.0

pub pass-requires-clause-root : goal.pass-requires-clause-root
pass-requires-clause-root c = root_seen c.self.inside.store c.self.inside.ready c.args.self.now c.args.o c.self.view_is c.requires.root

pub pass-requires-clause-has : goal.pass-requires-clause-has
pass-requires-clause-has c = may_own c.self.inside.store c.self.inside.ready c.args.self.now c.args.to c.self.view_is c.requires.owner

pub list_if-requires-clause-store : goal.list_if-requires-clause-store
list_if-requires-clause-store c = c.pass.ensures.store

pub list_if-requires-clause-root : goal.list_if-requires-clause-root
list_if-requires-clause-root c = root_kept c.self.inside.store c.pass.new.self c.self.inside.ready c.args.self.now c.args.o (with_object (owned_by c.args.to)) c.self.view_is (λ r e. refl) c.requires.root c.pass.ensures

pub invariant_of-self : goal.invariant_of-self
invariant_of-self c =
    let b = then_listed c.self.inside.store c.pass.new.self c.list_if.new.self c.args.ended c.args.o _ c.pass.ensures c.list_if.ensures in
    (b.store, rooms c.self.inside.ready c.self.inside.store c.list_if.new.self _ c.self.invariant.1 b)

pub returns-clause-passed : goal.returns-clause-passed
returns-clause-passed c =
    let b = then_listed c.self.inside.store c.pass.new.self c.list_if.new.self c.args.ended c.args.o _ c.pass.ensures c.list_if.ensures in
    seen_as c.self.inside.ready c.self.inside.store c.list_if.new.self _ c.args.self.now c.self.view_is b ∙ ap (λ (u : HeapValue). record { rows = leaving_if c.args.ended c.args.o (map (on_object c.args.o (owned_by c.args.to)) u.rows); ready = c.args.self.now.ready; clients = c.args.self.now.clients; instances = c.args.self.now.instances }) c.self.view_is
