use Rattle.std.proofs.Common.{map, take}
use Rattle.rref_heap.specs.Store.{Lists}
use Rattle.rref_heap.proofs.Below.{if_named, belows}
use Rattle.rref_heap.proofs.store.Store.list_below.Given as goal

abbrev pub invariant-cells : goal.invariant-cells
invariant-cells l = Lists l.fn.self l.self (map (if_named (take l.cell (belows l.fn.self.places.spots l.o))) l.fn.self.places.spots)
