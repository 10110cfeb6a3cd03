-- What the type keeps follows from what holds of the store.
use Rattle.rref_heap.proofs.KeptHeap.{kept_heap}
use Rattle.rref_heap.proofs.heap.Heap.is_kept.Goals as goal

pub returns : goal.returns
returns c = rw (← c.self.view_is) (kept_heap c.self.inside.store c.self.inside.ready c.self.invariant.0)
