-- A root hangs in another.
use Rattle.std.proofs.Common.{map}
use Rattle.machine_defs.specs.State.{Hung}
use Rattle.machine_defs.specs.Objects.{with_placement}
use Rattle.rref_heap.specs.Changing.{on_object}
use Rattle.rref_heap.proofs.HeapSteps.{seen_change, heap_kept}
use Rattle.rref_heap.proofs.heap.Heap.hang.Goals as goal

pub invariant_of-self : goal.invariant_of-self
invariant_of-self c = heap_kept c.self.inside.ready c.self.inside.store c.hang.new.self _ c.self.invariant c.hang.ensures

pub returns : goal.returns
returns c = seen_change c.self.inside.ready c.self.inside.store c.hang.new.self (λ rows. map (on_object c.args.v (with_placement (Hung c.args.o c.args.cell))) rows) c.args.self.now c.self.view_is c.hang.ensures
