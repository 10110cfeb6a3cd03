use Rattle.std.proofs.Common.{◌≡◌, ◌<◌, ℕ, List, length, sym, ◌∙◌, ap, subst}
use Rattle.std.specs.Prelude.{slice_get}
use Rattle.rref_heap.specs.HeapValue.{HeapValue, cells_at}
use Rattle.rref_heap.specs.Spots.{spot_of}
use Rattle.rref_heap.proofs.Passing.{cells_seen}
use Rattle.rref_heap.proofs.Dropping.{got_cell}
use Rattle.rref_heap.proofs.heap.Heap.get.Goals as goal

pub returns : goal.returns
returns c =
    let is = sym c.in-Some.ensures in
    let cells : cells_at c.args.self.now.rows c.args.o ≡ c.in-Some.place.now.cells.items = ap (λ (u : HeapValue). cells_at u.rows c.args.o) (sym c.self.view_is) ∙ cells_seen c.self.inside.store.places.spots c.args.o (spot_of c.in-Some.place.now) is in
    let within : c.args.cell < length c.in-Some.place.now.cells.items = subst (λ (l : List ℕ). c.args.cell < length l) cells c.requires.within in
    ap (λ (l : List ℕ). slice_get l c.args.cell) cells ∙ got_cell c.in-Some.place.now.cells.items c.args.cell _ within c.index.ensures
