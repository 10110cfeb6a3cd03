-- A heap behind a step of its store.
use Rattle.std.proofs.Common.{◌≡◌, ℕ, ◌+◌, ◌≤◌, ◌==◌, true, false, List, length, map, inl, inr, Option, Some, None, refl, sym, ap, ◌∙◌, subst, arith, length-append, length-take, length-drop}
use Rattle.std.specs.Prelude.{is_some}
use Rattle.std.proofs.lemmas.Bool.{cases_Bool}
use Rattle.machine_defs.specs.Objects.{overwritten, with_cells}
use Rattle.machine_defs.specs.ObjectRows.{instead}
use Rattle.rref_heap.specs.declared.heap.Ready.{Ready}
use Rattle.rref_heap.specs.declared.store.Store.{Store}
use Rattle.rref_heap.specs.HeapValue.{HeapRow, HeapRows, HeapValue, IsRoot, row_of, owner_in, cells_at}
use Rattle.rref_heap.specs.Changing.{on_row, on_object, with_object, one_loan_more, one_loan_less}
use Rattle.rref_heap.specs.Spots.{Spot, Spots, PlacesValue, at, on_spot, rows_in, row_at, one_more, one_fewer, written, to_cells}
use Rattle.rref_heap.specs.Store.{IsStore, Becomes, RoomsFor, nest_of, with_spots}
use Rattle.rref_heap.specs.Links.{links_in}
use Rattle.rref_heap.proofs.Passing.{heap_seen, seen_as, rooms, changed, cells_seen, becomes_then, root_link, row_at_is}
use Rattle.rref_heap.proofs.Objects.{row_of_map}

-- what is seen behind a change of the rows
pub seen_change : (ready : Option Ready) (s z : Store) (change : HeapRows → HeapRows) (v : HeapValue) → heap_seen s ready ≡ v → Becomes s z (change (rows_in s.places.spots))
    → heap_seen z ready ≡ record { rows = change v.rows; ready = v.ready; clients = v.clients; instances = v.instances }
seen_change ready s z change v is b =
    subst (λ (u : HeapValue). heap_seen z ready ≡ record { rows = change u.rows; ready = u.ready; clients = u.clients; instances = u.instances }) is
    (seen_as ready s z (change (rows_in s.places.spots)) (heap_seen s ready) refl b)

-- what holds behind it
pub heap_kept : (ready : Option Ready) (s z : Store) (rows : HeapRows) → IsStore s × RoomsFor ready s → Becomes s z rows → IsStore z × RoomsFor ready z
heap_kept ready s z rows kept b = (b.store, rooms ready s z rows kept.1 b)

-- the store with other places
abbrev pub with_places : Store → PlacesValue → Store
with_places s places = record s { places = places }

pub becomes_at : (s : Store) (new : PlacesValue) (spots : Spots) (rows : HeapRows) → new ≡ record { spots = spots; spare = s.places.spare } → Becomes s (with_spots s spots) rows → Becomes s (with_places s new) rows
becomes_at s new spots rows e b = subst (λ (p : PlacesValue). Becomes s (with_places s p) rows) (sym e) b

-- a loan more, a loan less
pub lent_more : (s : Store) (o : ℕ) → IsStore s → Becomes s (with_spots s (map (on_spot o one_more) s.places.spots)) (map (on_row o one_loan_more) (rows_in s.places.spots))
lent_more s o h = changed s o one_more one_loan_more h (λ q. refl) (λ q is. refl) (λ q. refl) (λ q. refl)

pub lent_less : (s : Store) (o : ℕ) → IsStore s → Becomes s (with_spots s (map (on_spot o one_fewer) s.places.spots)) (map (on_row o one_loan_less) (rows_in s.places.spots))
lent_less s o h = changed s o one_fewer one_loan_less h (λ q. refl) (λ q is. refl) (λ q. refl) (λ q. refl)

-- other values in the cells, of which there are as many
same_nest : (q : Spot) (cells : List ℕ) → length cells ≡ length q.cells → nest_of (record q { cells = cells }) ≡ nest_of q
same_nest q cells same = rw same refl

pub length_overwritten : (from : ℕ) (values cells : List ℕ) → from + length values ≤ length cells → length (overwritten from values cells) ≡ length cells
length_overwritten from values cells le = simp (length-append, length-take, length-drop) (omega arith)

pub wrote : (s : Store) (o from : ℕ) (values : List ℕ) → IsStore s → from + length values ≤ length (cells_at (rows_in s.places.spots) o)
    → Becomes s (with_spots s (map (on_spot o (written from values)) s.places.spots)) (map (on_object o (with_cells (overwritten from values))) (rows_in s.places.spots))
wrote s o from values h le = changed s o (written from values) (with_object (with_cells (overwritten from values))) h (λ q. refl)
    (λ q is. same_nest q (overwritten from values q.cells) (length_overwritten from values q.cells (subst (λ (xs : List ℕ). from + length values ≤ length xs) (cells_seen s.places.spots o q is) le)))
    (λ q. refl) (λ q. refl)

pub filled : (s : Store) (o : ℕ) (values : List ℕ) → IsStore s → length values ≡ length (cells_at (rows_in s.places.spots) o)
    → Becomes s (with_spots s (map (on_spot o (to_cells values)) s.places.spots)) (map (on_object o (with_cells (instead values))) (rows_in s.places.spots))
filled s o values h same = changed s o (to_cells values) (with_object (with_cells (instead values))) h (λ q. refl)
    (λ q is. same_nest q values (same ∙ ap length (cells_seen s.places.spots o q is)))
    (λ q. refl) (λ q. refl)

-- one step behind another
pub becomes_over : (s z y : Store) (rows : HeapRows) (change : HeapRows → HeapRows) → Becomes s z rows → Becomes z y (change (rows_in z.places.spots)) → Becomes s y (change rows)
becomes_over s z y rows change a b = subst (λ (r : HeapRows). Becomes s y (change r)) a.seen (becomes_then s z y rows (change (rows_in z.places.spots)) a b)

-- a root stays one, where its row changes and its placement doesn't or becomes a root's
pub root_changed : (o : ℕ) (f : HeapRow → HeapRow) (rows : HeapRows) → ((r : HeapRow) → is_some (owner_in (Some r)) ≡ true → is_some (owner_in (Some (f r))) ≡ true) → IsRoot rows o → IsRoot (map (on_row o f) rows) o
root_changed o f rows keeps root = subst (λ (x : Option HeapRow). is_some (owner_in x) ≡ true) (sym (row_of_map (on_row o f) refl rows o)) (go (row_of rows o) root)
  where
    go : (x : Option HeapRow) → is_some (owner_in x) ≡ true → is_some (owner_in (on_row o f x)) ≡ true
    go None e = absurd cc
    go (Some r) e = elim (cases_Bool (r.object.number == o)) [
      | inl is ↦ rw is (keeps r e)
      | inr isn't ↦ rw isn't e
    ]

pub becomes_root : (s z : Store) (o : ℕ) (f : HeapRow → HeapRow) → ((r : HeapRow) → is_some (owner_in (Some r)) ≡ true → is_some (owner_in (Some (f r))) ≡ true) → Becomes s z (map (on_row o f) (rows_in s.places.spots)) → IsRoot (rows_in s.places.spots) o → is_some (links_in z.places.spots o) ≡ true
becomes_root s z o f keeps b root = root_link z.places.spots o (subst (λ (rows : HeapRows). IsRoot rows o) (sym b.seen) (root_changed o f (rows_in s.places.spots) keeps root))

-- the spot of a root
pub root_there : (spots : Spots) (o : ℕ) → IsRoot (rows_in spots) o → (p : Spot) × (at spots o ≡ Some p)
root_there spots o root = go (at spots o) refl
  where
    go : (x : Option Spot) → at spots o ≡ x → (p : Spot) × (at spots o ≡ Some p)
    go None is = absurd (let e : IsRoot (rows_in spots) o = root in let x : row_of (rows_in spots) o ≡ None = row_at_is spots o ∙ ap row_at is in let y : false ≡ true = ap (λ r. is_some (owner_in r)) (sym x) ∙ root in cc)
    go (Some p) is = (p, is)

-- room is reserved
pub reserved : (s z : Store) → z.places.spots ≡ s.places.spots → z.listing.numbers ≡ s.listing.numbers → z.firsts ≡ s.firsts → z.live ≡ s.live → s.listing.spare ≤ z.listing.spare → IsStore s → IsStore z
reserved s z spots numbers firsts live more h = record {
  numbered = rw spots h.numbered;
  links = rw (spots, firsts) h.links;
  nested = rw spots h.nested;
  listed = rw (spots, numbers) h.listed;
  count = rw (spots, live) h.count;
  room = (let r = h.room in let e = ap length numbers in omega arith);
}
