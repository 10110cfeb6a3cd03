-- What a cell names hangs in it.
use Rattle.std.proofs.Common.{◌≡◌, ◌<◌, ◌∙◌, true, false, Option, Some, None, ap, sym, subst, arith}
use Rattle.std.specs.Option.{option_map_or}
use Rattle.rref_heap.specs.HeapValue.{HeapRow, HeapValue, is_there, leaves_at, hung_at}
use Rattle.rref_heap.specs.Spots.{rows_in}
use Rattle.rref_heap.proofs.KeptHeap.{found_none, found_some, there_row}
use Rattle.rref_heap.proofs.heap.Heap.hung.Goals as goal

pub returns-in-0 : goal.returns-in-0
returns-in-0 c =
    let s = c.self.inside.store in
    let r = there_row (rows_in s.places.spots) c.args.o (subst (λ (v : HeapValue). is_there v.rows c.args.o ≡ true) (sym c.self.view_is) c.requires.there) in
    subst (λ (v : HeapValue). None ≡ hung_at v.rows c.args.o c.args.cell) c.self.view_is
    (sym (found_none s c.self.inside.ready c.self.invariant.0 c.args.o c.args.cell r.0 r.1 (sym c.below.ensures ∙ c.in-0.is)))

pub returns-in_default : goal.returns-in_default
returns-in_default c =
    let s = c.self.inside.store in
    let r = there_row (rows_in s.places.spots) c.args.o (subst (λ (v : HeapValue). is_there v.rows c.args.o ≡ true) (sym c.self.view_is) c.requires.there) in
    let stays = subst (λ (v : HeapValue). leaves_at v.rows c.args.o ≡ false) (sym c.self.view_is) c.requires.stays in
    let pos : 0 < c.below.result = omega arith in
    subst (λ (v : HeapValue). Some c.below.result ≡ hung_at v.rows c.args.o c.args.cell) c.self.view_is
    (sym (found_some s c.self.inside.ready c.self.invariant.0 c.args.o c.args.cell c.below.result r.0 r.1 (sym (ap (λ (x : Option HeapRow). option_map_or (λ r. r.leaves) x false) r.1) ∙ stays) c.below.ensures pos))
