use Rattle.std.proofs.Common.{Bool, sym, subst}
use Rattle.rref_heap.specs.Changing.{leaving_if}
use Rattle.rref_heap.specs.Spots.{rows_in}
use Rattle.rref_heap.specs.Store.{Becomes}
use Rattle.rref_heap.proofs.Below.{unchanged}
use Rattle.rref_heap.proofs.store.Store.list_if.Goals as goal

pub returns-then-asked : goal.returns-then-asked
returns-then-asked c = subst (λ (b : Bool). Becomes c.args.self.now c.list.new.self (leaving_if b c.args.o (rows_in c.args.self.now.places.spots))) (sym c.if-asked.true) c.list.ensures.becomes

pub returns-else-asked : goal.returns-else-asked
returns-else-asked c = subst (λ (b : Bool). Becomes c.args.self.now c.args.self.now (leaving_if b c.args.o (rows_in c.args.self.now.places.spots))) (sym c.if-asked.false) (unchanged c.args.self.now c.requires.store)
