use Rattle.rref_heap.proofs.Dropping.{empty_store}
use Rattle.rref_heap.proofs.heap.Heap.new.Goals as goal

pub invariant_of-result : goal.invariant_of-result
invariant_of-result c = (empty_store c.new.result c.new.ensures.spots c.new.ensures.firsts c.new.ensures.numbers c.new.ensures.live, tt)
