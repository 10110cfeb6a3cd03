use Rattle.std.proofs.Common.{Option, Some, None}
use Rattle.rref_heap.specs.Links.{FirstRows}
use Rattle.rref_heap.specs.declared.heap.Ready.{Ready}
use Rattle.rref_heap.specs.declared.store.Store.{Store}
use Rattle.rref_heap.specs.Store.{RoomsFor}
use Rattle.rref_heap.proofs.Reserving.{widened}
use Rattle.rref_heap.proofs.heap.Heap.reserve_owner.Goals as goal

same_rooms : (ready : Option Ready) (s : Store) (g : FirstRows) → RoomsFor ready s → RoomsFor ready (record { places = s.places; firsts = g; listing = s.listing; live = s.live })
same_rooms None s g r = r
same_rooms (Some x) s g r = record { cells = r.cells; below = r.below; wide = r.wide; place = r.place; number = r.number }

pub invariant_of-self : goal.invariant_of-self
invariant_of-self c = (widened c.self.inside.store c.open.new.self c.self.invariant.0 c.open.ensures.clients c.open.ensures.instances, same_rooms c.self.inside.ready c.self.inside.store c.open.new.self c.self.invariant.1)
