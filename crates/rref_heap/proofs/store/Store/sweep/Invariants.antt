use Rattle.std.proofs.Common.{◌≡◌, ◌+◌, ◌++◌, map, length}
use Rattle.machine_defs.specs.declared.entry.Entry.TheVariants as entry
use Rattle.rref_heap.specs.Leaving.{leaving_in}
use Rattle.rref_heap.specs.Spots.{rows_in}
use Rattle.rref_heap.proofs.Sweeping.{Sweeps}
use Rattle.rref_heap.proofs.store.Store.sweep.Given as goal

abbrev pub invariant-numbers : goal.invariant-numbers
invariant-numbers l = record {
  sweeps : Sweeps l.fn.self l.self;
  entries : l.log.entries ++ map entry.Free (leaving_in (rows_in l.self.places.spots)) ≡ l.fn.log.entries ++ map entry.Free (leaving_in (rows_in l.fn.self.places.spots));
  spare : l.log.spare + length (leaving_in (rows_in l.fn.self.places.spots)) ≡ l.fn.log.spare + length (leaving_in (rows_in l.self.places.spots));
}

abbrev pub decreases-numbers : goal.decreases-numbers
decreases-numbers l = length l.self.listing.numbers
