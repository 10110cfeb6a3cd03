use Rattle.std.proofs.Common.{arith}
use Rattle.rref_heap.proofs.Below.{listed_first, listed_more, all_listed, width_belows}
use Rattle.rref_heap.proofs.store.Store.list_below.Goals as goal

pub cells-init : goal.cells-init
cells-init c = listed_first c.args.self.now c.args.o c.requires.listable

pub list_one-requires : goal.list_one-requires
list_one-requires c = c.cells.invariant.listable

pub cells-preserved : goal.cells-preserved
cells-preserved c = let w = c.width-width.ensures in let b = width_belows c.args.self.now.places.spots c.args.o in listed_more c.args.self.now c.cells.self c.list_one.new.self c.args.o c.cells.cell c.below-v.result (omega arith) c.cells.invariant c.below-v.ensures c.list_one.ensures

pub returns : goal.returns
returns c = let w = c.width-width.ensures in let b = width_belows c.args.self.now.places.spots c.args.o in all_listed c.args.self.now c.cells.self c.args.o c.cells.cell c.requires.nested c.requires.listable (omega arith) c.cells.invariant
