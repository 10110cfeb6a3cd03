-- A store in which a root hangs in a cell of another, or hangs there no more.
use Rattle.std.proofs.Common.{◌≡◌, ℕ, ◌<◌, ◌==◌, true, false, not, List, [], ◌∷◌, length, map, Option, Some, None, refl, sym, ap, ◌∙◌, subst, arith, inl, inr}
use Rattle.std.specs.Prelude.{slice_index_or, is_some}
use Rattle.std.specs.Option.{option_map, option_map_or}
use Rattle.std.proofs.lemmas.Bool.{cases_eq, both_ways}
use Rattle.std.proofs.lemmas.List.{length-set, length-map}
use Rattle.machine_defs.specs.declared.values.Owner.{Owner}
use Rattle.machine_defs.specs.State.{Placement, Root, Hung}
use Rattle.machine_defs.specs.Objects.{owned_by, with_placement}
use Rattle.rref_heap.specs.HeapValue.{HeapRow, IsRoot, root_owner, owner_in, owner_at, cells_at, nests_at, leaves_at, hung_at}
use Rattle.rref_heap.specs.Changing.{on_object, with_object}
use Rattle.rref_heap.specs.Spots.{Spot, Spots, at, Numbered, on_spot, row_of_spot, row_at, rows_in, to_owner, to_cell, to_below, below_in, spot_in, placement_of}
use Rattle.rref_heap.specs.Links.{first_in, HasFirst, first_after, Link, LinksBut, link_by, link_of, links_in}
use Rattle.rref_heap.specs.declared.store.Store.{Store}
use Rattle.rref_heap.specs.declared.place.Place.{Place}
use Rattle.rref_heap.specs.declared.place.Hanging.{Hanging}
use Rattle.rref_heap.specs.Store.{Nest, cell_of, nest_of, nests_in, leaves_in, IsNested, IsListing, IsStore, Becomes, with_spots, without_links, linked_first}
use Rattle.rref_heap.proofs.Spots.{same_some, unequal, at_map, at_on, here_on, at_within}
use Rattle.rref_heap.proofs.Links.{out_gone, out_came, same_links}
use Rattle.rref_heap.proofs.Quiet.{Quiet, each_on, numbered_on, count_on, rows_on, rows_same}
use Rattle.rref_heap.proofs.Passing.{quiet_prev, apart, quiet_apart, rows_apart, out_of_links, in_links, fronted, rows_fronted, widths_after, widths_set, row_at_is, root_link, cells_seen, has_of}
use Rattle.rref_heap.proofs.Below.{root_nest}
use Rattle.rref_heap.proofs.Dropping.{leaves_seen}
use Rattle.rref_heap.proofs.Rows.{spot_at}
use Rattle.rref_heap.proofs.Objects.{hung_there}
use Rattle.rref_heap.proofs.KeptHeap.{found_some, kept_heap}
use Rattle.rref_heap.proofs.UnhungRoots.{unhung, Unhangable, nested_unhung}
use Rattle.rref_heap.proofs.HungRoots.{hung_at_cell, with_below, Hangable, nested_hung}

-- a spot of which a link, or how it hangs, is known
pub nest_spot : (x : Option Spot) (p : Nest) → option_map nest_of x ≡ Some p → (q : Spot) × (x ≡ Some q) × (nest_of q ≡ p)
nest_spot None p is = absurd cc
nest_spot (Some q) p is = (q, refl, same_some is)

pub linked_spot : (x : Option Spot) → is_some (link_of x) ≡ true → (q : Spot) × (x ≡ Some q)
linked_spot None e = absurd cc
linked_spot (Some q) e = (q, refl)

pub nest_here : (spots : Spots) (n : ℕ) (p : Spot) → at spots n ≡ Some p → nests_in spots n ≡ Some (nest_of p)
nest_here spots n p is = ap (λ (x : Option Spot). option_map nest_of x) is

-- how the spot of a number hangs where it changes, and how another does
pub nest_on : (k : ℕ) (f : Spot → Spot) (g : Nest → Nest) (spots : Spots) → Numbered spots → ((q : Spot) → nest_of (f q) ≡ g (nest_of q)) → (p : Nest) → nests_in spots k ≡ Some p → nests_in (map (on_spot k f) spots) k ≡ Some (g p)
nest_on k f g spots numbered same p is =
    let q = nest_spot (at spots k) p is in
    nest_here (map (on_spot k f) spots) k (f q.0) (at_map (on_spot k f) refl spots k ∙ here_on k f spots numbered q.0 q.1) ∙ ap (λ (x : Nest). Some x) (same q.0 ∙ ap g q.2)

pub nest_off : (k : ℕ) (f : Spot → Spot) (spots : Spots) → Numbered spots → (n : ℕ) → (n ≡ k → ⊥) → nests_in (map (on_spot k f) spots) n ≡ nests_in spots n
nest_off k f spots numbered n ne = ap (λ (x : Option Spot). option_map nest_of x) (at_map (on_spot k f) refl spots n ∙ at_on k f spots numbered n ne)

-- the list, where the same leave
pub same_leavers : (N M : ℕ → Option Nest) (numbers : List ℕ) → ((n : ℕ) → leaves_in (M n) ≡ leaves_in (N n)) → IsListing N numbers → IsListing M numbers
same_leavers N M numbers same h = record { same = λ n. h.same n ∙ sym (same n); once = h.once }

pub nests_seen : (spots : Spots) (o : ℕ) (p : Spot) → at spots o ≡ Some p → nests_at (rows_in spots) o ≡ not (length p.below == 0)
nests_seen spots o p is = ap (λ (x : Option HeapRow). option_map_or (λ r. r.nests) x false) (row_at_is spots o ∙ ap row_at is)

none_below : (xs : List ℕ) → not (length xs == 0) ≡ false → xs ≡ []
none_below [] e = refl
none_below (x ∷ xs) e = absurd (both_ways (not (length (x ∷ xs) == 0)) e (ap not (unequal (length (x ∷ xs)) 0 (λ same. omega arith))))

some_below : (xs : List ℕ) → not (length xs == 0) ≡ true → 0 < length xs
some_below [] e = absurd cc
some_below (x ∷ xs) e = omega arith

root_hung : (s : Store) (o : ℕ) → IsRoot (rows_in s.places.spots) o → (q : Spot) → at s.places.spots o ≡ Some q → (nest_of q).hung ≡ None
root_hung s o root q is = root_nest s.places.spots o (root_link s.places.spots o root) (nest_of q) (nest_here s.places.spots o q is)

-- the rows do not tell what hangs in a cell
row_below : (cell v : ℕ) (q : Spot) → row_of_spot (to_below cell v q) ≡ row_of_spot q
row_below cell v q = ap (λ (n : ℕ). record { object = (row_of_spot q).object; loans = q.loans; nests = not (n == 0); leaves = q.leaves }) (length-set q.below cell v)

module _ (s : Store) (o cell v : ℕ) (h : IsStore s) (parent : IsRoot (rows_in s.places.spots) o) (child : IsRoot (rows_in s.places.spots) v) (nests : nests_at (rows_in s.places.spots) o ≡ true) (low : nests_at (rows_in s.places.spots) v ≡ false) (stays : leaves_at (rows_in s.places.spots) o ≡ false) (child_stays : leaves_at (rows_in s.places.spots) v ≡ false) (within : cell < length (cells_at (rows_in s.places.spots) o)) (empty : hung_at (rows_in s.places.spots) o cell ≡ None) where
  abbrev old : Spots
  old = s.places.spots

  two_apart : o ≡ v → ⊥
  two_apart e = both_ways (nests_at (rows_in old) v) low (ap (nests_at (rows_in old)) (sym e) ∙ nests)

  parent_spot : (q : Spot) × (at old o ≡ Some q)
  parent_spot = linked_spot (at old o) (root_link old o parent)

  child_spot : (q : Spot) × (at old v ≡ Some q)
  child_spot = linked_spot (at old v) (root_link old v child)

  cell_empty : (q : Spot) → at old o ≡ Some q → slice_index_or q.below cell 0 ≡ 0
  cell_empty q is = elim (cases_eq (slice_index_or q.below cell 0) 0) [
    | inl e ↦ e
    | inr ne ↦ absurd (
        let pos : 0 < slice_index_or q.below cell 0 = omega arith in
        let found = found_some s None h o cell (slice_index_or q.below cell 0) (row_of_spot q) (row_at_is old o ∙ ap row_at is) (sym (ap (λ (x : Option HeapRow). option_map_or (λ r. r.leaves) x false) (row_at_is old o ∙ ap row_at is)) ∙ stays) (sym (ap (λ (x : Option Spot). below_in x cell) is)) pos in
        let k : None ≡ Some (slice_index_or q.below cell 0) = sym empty ∙ found in cc)
  ]

  leaves_not : (n : ℕ) (q : Spot) → at old n ≡ Some q → leaves_at (rows_in old) n ≡ false → q.leaves ≡ false
  leaves_not n q is e = sym (ap (λ (x : Option Nest). leaves_in x) (nest_here old n q is)) ∙ (sym (leaves_seen old n) ∙ e)

  pub cell_within : (q : Spot) → at old o ≡ Some q → cell < length q.below
  cell_within q is =
      let pos = some_below q.below (sym (nests_seen old o q is) ∙ nests) in
      let wide : length q.below ≡ length q.cells = h.nested.wide o (nest_of q) (nest_here old o q is) pos in
      let cells : length (cells_at (rows_in old) o) ≡ length q.cells = ap length (cells_seen old o q is) in
      let lt = within in
      omega arith

  hangable : Hangable (nests_in old) (length old) o v cell (nest_of parent_spot.0) (nest_of child_spot.0)
  hangable = record {
    at_o = nest_here old o parent_spot.0 parent_spot.1;
    at_v = nest_here old v child_spot.0 child_spot.1;
    none = refl;
    apart = two_apart;
    root_o = root_hung s o parent parent_spot.0 parent_spot.1;
    root_v = root_hung s v child child_spot.0 child_spot.1;
    low = none_below child_spot.0.below (sym (nests_seen old v child_spot.0 child_spot.1) ∙ low);
    stays_o = leaves_not o parent_spot.0 parent_spot.1 stays;
    stays_v = leaves_not v child_spot.0 child_spot.1 child_stays;
    within = cell_within parent_spot.0 parent_spot.1;
    empty = cell_empty parent_spot.0 parent_spot.1;
    top_o = (at_within old o parent_spot.0 parent_spot.1).1;
    top_v = (at_within old v child_spot.0 child_spot.1).1;
  }

  module _ (p : Link) (is : links_in s.places.spots v ≡ Some p) where
    abbrev one : Spots
    one = apart p old

    abbrev two : Spots
    two = map (on_spot v (to_cell o cell)) one

    abbrev three : Spots
    three = map (on_spot o (to_below cell v)) two

    numbered_one : Numbered one
    numbered_one = (quiet_apart p old h.numbered).numbered

    numbered_two : Numbered two
    numbered_two = numbered_on v (to_cell o cell) one numbered_one (λ q. refl)

    nest_one : (n : ℕ) → nests_in one n ≡ nests_in old n
    nest_one n = (quiet_apart p old h.numbered).nests n

    parent_two : nests_in two o ≡ Some (nest_of parent_spot.0)
    parent_two = nest_off v (to_cell o cell) one numbered_one o two_apart ∙ (nest_one o ∙ nest_here old o parent_spot.0 parent_spot.1)

    pub parent_within : (q : Spot) → at two o ≡ Some q → cell < length q.below
    parent_within q here =
        let same : nest_of q ≡ nest_of parent_spot.0 = same_some (sym (nest_here two o q here) ∙ parent_two) in
        subst (λ (xs : List ℕ). cell < length xs) (sym (ap (λ (x : Nest). x.below) same)) (cell_within parent_spot.0 parent_spot.1)

    child_two : nests_in two v ≡ Some (hung_at_cell o cell (nest_of child_spot.0))
    child_two = nest_on v (to_cell o cell) (hung_at_cell o cell) one numbered_one (λ q. refl) (nest_of child_spot.0) (nest_one v ∙ nest_here old v child_spot.0 child_spot.1)

    now_o : nests_in three o ≡ Some (with_below cell v (nest_of parent_spot.0))
    now_o = nest_on o (to_below cell v) (with_below cell v) two numbered_two (λ q. refl) (nest_of parent_spot.0) parent_two

    now_v : nests_in three v ≡ Some (hung_at_cell o cell (nest_of child_spot.0))
    now_v = nest_off o (to_below cell v) two numbered_two v (λ e. two_apart (sym e)) ∙ child_two

    others : (n : ℕ) → (n ≡ o → ⊥) → (n ≡ v → ⊥) → nests_in three n ≡ nests_in old n
    others n ne ne' = nest_off o (to_below cell v) two numbered_two n ne ∙ (nest_off v (to_cell o cell) one numbered_one n ne' ∙ nest_one n)

    same_leaves : (n : ℕ) → leaves_in (nests_in three n) ≡ leaves_in (nests_in old n)
    same_leaves n = elim (cases_eq n o) [
      | inl e ↦ subst (λ (m : ℕ). leaves_in (nests_in three m) ≡ leaves_in (nests_in old m)) (sym e) (ap (λ (x : Option Nest). leaves_in x) now_o ∙ sym (ap (λ (x : Option Nest). leaves_in x) (nest_here old o parent_spot.0 parent_spot.1)))
      | inr ne ↦ elim (cases_eq n v) [
        | inl e ↦ subst (λ (m : ℕ). leaves_in (nests_in three m) ≡ leaves_in (nests_in old m)) (sym e) (ap (λ (x : Option Nest). leaves_in x) now_v ∙ sym (ap (λ (x : Option Nest). leaves_in x) (nest_here old v child_spot.0 child_spot.1)))
        | inr ne' ↦ ap (λ (x : Option Nest). leaves_in x) (others n ne ne')
      ]
    ]

    no_link : links_in two v ≡ None
    no_link =
        let q = nest_spot (at one v) (nest_of child_spot.0) (nest_one v ∙ nest_here old v child_spot.0 child_spot.1) in
        ap link_of (at_map (on_spot v (to_cell o cell)) refl one v ∙ here_on v (to_cell o cell) one numbered_one q.0 q.1)

    links_three : LinksBut (links_in three) (first_after s.firsts p.owner p.prev p.next) 0
    links_three =
        let l2 = out_gone (links_in one) (links_in two) (first_after s.firsts p.owner p.prev p.next) v no_link (λ n ne. ap link_of (at_map (on_spot v (to_cell o cell)) refl one n ∙ at_on v (to_cell o cell) one numbered_one n ne)) (out_of_links old s.firsts v p h.numbered h.links is) in
        same_links (links_in two) (links_in three) (first_after s.firsts p.owner p.prev p.next) 0 (each_on link_of o (to_below cell v) two numbered_two (λ q here. refl)) l2

    len_three : length three ≡ length old
    len_three = length-map two (on_spot o (to_below cell v)) ∙ (length-map one (on_spot v (to_cell o cell)) ∙ (quiet_apart p old h.numbered).len)

    pub hanged : Becomes s (with_spots (without_links s p.owner p.prev p.next) three) (map (on_object v (with_placement (Hung o cell))) (rows_in s.places.spots))
    hanged =
        let w = widths_after s.firsts p.owner p.prev p.next in
        record {
          store = record {
            numbered = numbered_on o (to_below cell v) two numbered_two (λ q. refl);
            links = links_three;
            nested = subst (λ (k : ℕ). IsNested (nests_in three) k) (sym len_three) (nested_hung (nests_in old) (nests_in three) (length old) o v cell (nest_of parent_spot.0) (nest_of child_spot.0) h.nested hangable now_o now_v others);
            listed = same_leavers (nests_in old) (nests_in three) s.listing.numbers same_leaves h.listed;
            count = h.count ∙ sym (count_on o (to_below cell v) two ∙ (count_on v (to_cell o cell) one ∙ (quiet_apart p old h.numbered).count));
            room = h.room;
          };
          seen = rows_same o (to_below cell v) two (λ q. row_below cell v q) ∙ (rows_on v (to_cell o cell) (with_object (with_placement (Hung o cell))) one (λ q e. refl) ∙ ap (map (on_object v (with_placement (Hung o cell)))) (rows_apart p old));
          spare = refl;
          clients = w.clients;
          instances = w.instances;
          fewer = omega arith;
          room = refl;
        }

-- what hung in a cell is a root again
module _ (s : Store) (o cell v : ℕ) (w : Owner) (h : IsStore s) (owned : root_owner (rows_in s.places.spots) o ≡ Some w) (full : hung_at (rows_in s.places.spots) o cell ≡ Some v) where
  abbrev was : Spots
  was = s.places.spots

  over_root : IsRoot (rows_in s.places.spots) o
  over_root = ap (λ (x : Option Owner). is_some x) owned

  over_spot : (q : Spot) × (at was o ≡ Some q)
  over_spot = linked_spot (at was o) (root_link was o over_root)

  below_spot : (q : Spot) × (at was v ≡ Some q) × (q.placement ≡ Hung o cell)
  below_spot =
      let a = hung_there (rows_in was) o cell v ((kept_heap s None h).numbered) full in
      let p = spot_at was v a.row a.is in
      (p.spot, p.is, sym (ap (λ (r : HeapRow). r.object.placement) p.row) ∙ a.hangs)

  unhangable : Unhangable (nests_in was) o v cell (nest_of over_spot.0) (nest_of below_spot.0)
  unhangable = record {
    at_o = nest_here was o over_spot.0 over_spot.1;
    at_v = nest_here was v below_spot.0 below_spot.1;
    apart = λ e. (
        let a = root_hung s o over_root over_spot.0 over_spot.1 in
        let same : over_spot.0 ≡ below_spot.0 = same_some (sym over_spot.1 ∙ (ap (at was) e ∙ below_spot.1)) in
        let k : None ≡ Some (record { parent = o; place = cell }) = sym a ∙ (ap (λ (q : Spot). cell_of q.placement) same ∙ ap cell_of below_spot.2) in cc);
    root_o = root_hung s o over_root over_spot.0 over_spot.1;
    hung_v = ap cell_of below_spot.2;
  }

  in_cell : (slice_index_or over_spot.0.below cell 0 ≡ v) × (cell < length over_spot.0.below)
  in_cell =
      let i = (h.nested.hangs v (nest_of below_spot.0) _ unhangable.at_v unhangable.hung_v).in_parent (nest_of over_spot.0) unhangable.at_o in
      (i.0, i.1)

  -- what a look at the cell finds
  pub in_cell_below : below_in (at s.places.spots o) cell ≡ v
  in_cell_below = ap (λ (x : Option Spot). below_in x cell) over_spot.1 ∙ in_cell.0

  pub over_within : (q : Spot) → at s.places.spots o ≡ Some q → cell < length q.below
  over_within q is = subst (λ (r : Spot). cell < length r.below) (same_some (sym over_spot.1 ∙ is)) in_cell.1

  abbrev cut : Spots
  cut = map (on_spot o (to_below cell 0)) was

  numbered_cut : Numbered cut
  numbered_cut = numbered_on o (to_below cell 0) was h.numbered (λ q. refl)

  pub over_there : (q : Spot) × (at (map (on_spot o (to_below cell 0)) s.places.spots) o ≡ Some q) × (q.placement ≡ Root w)
  over_there = (
    to_below cell 0 over_spot.0,
    at_map (on_spot o (to_below cell 0)) refl was o ∙ here_on o (to_below cell 0) was h.numbered over_spot.0 over_spot.1,
    root_of over_spot.0.placement (sym (ap owner_in (row_at_is was o ∙ ap row_at over_spot.1)) ∙ owned),
  )
    where
      root_of : (x : Placement) → owner_at x ≡ Some w → x ≡ Root w
      root_of (Root u) e = ap Root (same_some e)
      root_of (Hung parent place) e = absurd cc

  pub over_has : HasFirst s.firsts w
  unfolding over_spot over_there
  over_has =
      let q = over_there in
      let placement : over_spot.0.placement ≡ Root w = q.2 in
      has_of s o (record { owner = w; next = over_spot.0.next; prev = over_spot.0.prev }) h (ap link_of over_spot.1 ∙ ap (λ (x : Placement). link_by x over_spot.0.next over_spot.0.prev) placement)

  links_cut : LinksBut (links_in cut) s.firsts v
  links_cut =
      let pos = (at_within was v below_spot.0 below_spot.1).0 in
      let none : links_in was v ≡ None = ap link_of below_spot.1 ∙ ap (λ (x : Placement). link_by x below_spot.0.next below_spot.0.prev) below_spot.2 in
      out_came (links_in was) (links_in cut) s.firsts v pos none (λ n ne. each_on link_of o (to_below cell 0) was h.numbered (λ q here. refl) n) h.links

  below_cut : at cut v ≡ Some below_spot.0
  below_cut = at_map (on_spot o (to_below cell 0)) refl was v ∙ (at_on o (to_below cell 0) was h.numbered v (λ e. unhangable.apart (sym e)) ∙ below_spot.1)

  abbrev m : ℕ
  m = first_in s.firsts w

  abbrev given : Spots
  given = map (on_spot v (to_owner w (first_in s.firsts w))) cut

  numbered_given : Numbered given
  numbered_given = numbered_on v (to_owner w (first_in s.firsts w)) cut numbered_cut (λ q. refl)

  quiet_given : Quiet given (fronted cut s.firsts v w)
  quiet_given = quiet_prev (first_in s.firsts w) v given numbered_given

  cut_o : nests_in (fronted cut s.firsts v w) o ≡ Some (with_below cell 0 (nest_of over_spot.0))
  cut_o = quiet_given.nests o ∙ (nest_off v (to_owner w (first_in s.firsts w)) cut numbered_cut o unhangable.apart ∙ nest_on o (to_below cell 0) (with_below cell 0) was h.numbered (λ q. refl) (nest_of over_spot.0) unhangable.at_o)

  cut_v : nests_in (fronted cut s.firsts v w) v ≡ Some (unhung (nest_of below_spot.0))
  cut_v = quiet_given.nests v ∙ nest_on v (to_owner w (first_in s.firsts w)) unhung cut numbered_cut (λ q. refl) (nest_of below_spot.0) (nest_here cut v below_spot.0 below_cut)

  cut_others : (n : ℕ) → (n ≡ o → ⊥) → (n ≡ v → ⊥) → nests_in (fronted cut s.firsts v w) n ≡ nests_in was n
  cut_others n ne ne' = quiet_given.nests n ∙ (nest_off v (to_owner w (first_in s.firsts w)) cut numbered_cut n ne' ∙ nest_off o (to_below cell 0) was h.numbered n ne)

  cut_leaves : (n : ℕ) → leaves_in (nests_in (fronted cut s.firsts v w) n) ≡ leaves_in (nests_in was n)
  cut_leaves n = elim (cases_eq n o) [
    | inl e ↦ subst (λ (j : ℕ). leaves_in (nests_in (fronted cut s.firsts v w) j) ≡ leaves_in (nests_in was j)) (sym e) (ap (λ (x : Option Nest). leaves_in x) cut_o ∙ sym (ap (λ (x : Option Nest). leaves_in x) unhangable.at_o))
    | inr ne ↦ elim (cases_eq n v) [
      | inl e ↦ subst (λ (j : ℕ). leaves_in (nests_in (fronted cut s.firsts v w) j) ≡ leaves_in (nests_in was j)) (sym e) (ap (λ (x : Option Nest). leaves_in x) cut_v ∙ sym (ap (λ (x : Option Nest). leaves_in x) unhangable.at_v))
      | inr ne' ↦ ap (λ (x : Option Nest). leaves_in x) (cut_others n ne ne')
    ]
  ]

  len_cut : length (fronted cut s.firsts v w) ≡ length was
  len_cut = quiet_given.len ∙ (length-map cut (on_spot v (to_owner w (first_in s.firsts w))) ∙ length-map was (on_spot o (to_below cell 0)))

  pub unhanged : Becomes s (linked_first (with_spots s (map (on_spot o (to_below cell 0)) s.places.spots)) v w) (map (on_object v (owned_by w)) (rows_in s.places.spots))
  unhanged =
      let x = widths_set s.firsts w v in
      record {
        store = record {
          numbered = quiet_given.numbered;
          links = in_links cut s.firsts v w numbered_cut links_cut over_has below_spot.0 below_cut;
          nested = subst (λ (k : ℕ). IsNested (nests_in (fronted cut s.firsts v w)) k) (sym len_cut) (nested_unhung (nests_in was) (nests_in (fronted cut s.firsts v w)) (length was) o v cell (nest_of over_spot.0) (nest_of below_spot.0) h.nested unhangable cut_o cut_v cut_others);
          listed = same_leavers (nests_in was) (nests_in (fronted cut s.firsts v w)) s.listing.numbers cut_leaves h.listed;
          count = h.count ∙ sym (quiet_given.count ∙ (count_on v (to_owner w (first_in s.firsts w)) cut ∙ count_on o (to_below cell 0) was));
          room = h.room;
        };
        seen = rows_fronted cut s.firsts v w ∙ ap (map (on_object v (owned_by w))) (rows_same o (to_below cell 0) was (λ q. row_below cell 0 q));
        spare = refl;
        clients = x.clients;
        instances = x.instances;
        fewer = omega arith;
        room = refl;
      }

-- the owner that is read at a place
pub place_owner : (x : Option Place) (p : Place) (w : Owner) (y : Option Spot) → x ≡ Some p → spot_in x ≡ y → (q : Spot) → y ≡ Some q → q.placement ≡ Root w → p.owner ≡ w
place_owner x p w y x_is same q y_is root = by p.hangs (ap (λ (s : Spot). s.placement) (same_some (sym (ap spot_in x_is) ∙ (same ∙ y_is))) ∙ root)
  where
    by : (k : Option Hanging) → placement_of p.owner k ≡ Root w → p.owner ≡ w
    by None e = cc
    by (Some k) e = absurd cc

pub some_owner : (x : Option Owner) → is_some x ≡ true → (w : Owner) × (x ≡ Some w)
some_owner None e = absurd cc
some_owner (Some w) e = (w, refl)

some_number : (x : Option ℕ) → is_some x ≡ true → (n : ℕ) × (x ≡ Some n)
some_number None e = absurd cc
some_number (Some n) e = (n, refl)

-- what a look at a full cell of a root finds hangs there
pub found_hung : (s : Store) (o cell v : ℕ) → IsStore s → IsRoot (rows_in s.places.spots) o → is_some (hung_at (rows_in s.places.spots) o cell) ≡ true → v ≡ below_in (at s.places.spots o) cell → hung_at (rows_in s.places.spots) o cell ≡ Some v
found_hung s o cell v h root full is =
    let w = some_owner (root_owner (rows_in s.places.spots) o) root in
    let n = some_number (hung_at (rows_in s.places.spots) o cell) full in
    n.1 ∙ ap (λ (k : ℕ). Some k) (sym (is ∙ in_cell_below s o cell n.0 w.0 h w.1 n.1))
