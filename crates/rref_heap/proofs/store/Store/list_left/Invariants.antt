use Rattle.std.proofs.Common.{◌-◌, length}
use Rattle.rref_heap.specs.Leaving.{roots_of}
use Rattle.rref_heap.specs.Spots.{rows_in}
use Rattle.rref_heap.proofs.LeftRoots.{Walk}
use Rattle.rref_heap.proofs.store.Store.list_left.Given as goal

abbrev pub invariant-roots : goal.invariant-roots
invariant-roots g l = Walk l.fn.self l.self l.fn.owner l.o l.fn.steps l.steps

abbrev pub decreases-roots : goal.decreases-roots
decreases-roots g l = length (roots_of (rows_in l.fn.self.places.spots) l.fn.owner) - (l.steps - l.fn.steps)
