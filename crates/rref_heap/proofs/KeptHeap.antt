-- What a heap's type keeps, from what holds of its store.
use Rattle.std.proofs.Common.{◌≡◌, ℕ, ◌<◌, ◌==◌, true, false, not, length, Option, Some, None, refl, sym, ap, ◌∙◌, subst, arith}
use Rattle.std.specs.List.{slice_index_or}
use Rattle.std.specs.Prelude.{is_some}
use Rattle.std.specs.Option.{option_map, option_map_or}
use Rattle.std.proofs.lemmas.Bool.{ne_eqb, both_ways}
use Rattle.machine_defs.specs.declared.values.Owner.{Owner}
use Rattle.machine_defs.specs.declared.values.Owner.TheVariants as owner
use Rattle.machine_defs.specs.State.{Placement, Root, Hung}
use Rattle.rref_heap.specs.declared.heap.Ready.{Ready}
use Rattle.rref_heap.specs.declared.store.Store.{Store}
use Rattle.rref_heap.specs.HeapValue.{HeapRow, HeapRows, row_of, MayOwn, IsRoot, root_owner, owner_in, owner_at, hung_at, is_there}
use Rattle.rref_heap.specs.Spots.{Spot, Spots, at, rows_in, row_of_spot, below_in}
use Rattle.rref_heap.specs.Links.{HasFirst, links_in, link_of, link_by}
use Rattle.rref_heap.specs.Store.{IsStore, Cell, cell_of, nest_of, nests_in}
use Rattle.rref_heap.specs.Kept.{HangsWell, IsHeapOf}
use Rattle.rref_heap.proofs.Rows.{spot_at, row_there, row_gone}
use Rattle.rref_heap.proofs.Objects.{hung_there, hung_alone}
use Rattle.rref_heap.proofs.Passing.{heap_seen}

owner_may : (s : Store) (ready : Option Ready) (w : Owner) → HasFirst s.firsts w → MayOwn (heap_seen s ready) w
owner_may s ready (owner.Client c) has = has
owner_may s ready (owner.Instance i) has = has

pub root_is : (rows : HeapRows) (o : ℕ) (r : HeapRow) → row_of rows o ≡ Some r → (w : Owner) → r.object.placement ≡ Root w → IsRoot rows o
root_is rows o r is w root =
    let e : root_owner rows o ≡ Some w = ap owner_in is ∙ ap owner_at root in
    rw e refl

module _ (s : Store) (ready : Option Ready) (h : IsStore s) where
  abbrev pub spots : Spots
  spots = s.places.spots

  nest_at : (n : ℕ) (p : Spot) → at s.places.spots n ≡ Some p → nests_in s.places.spots n ≡ Some (nest_of p)
  nest_at n p is = ap (option_map nest_of) is

  kept_owned : (o : ℕ) (r : HeapRow) (w : Owner) → row_of (rows_in s.places.spots) o ≡ Some r → r.object.placement ≡ Root w → MayOwn (heap_seen s ready) w
  kept_owned o r w is root =
      let p = spot_at s.places.spots o r is in
      let placement : p.spot.placement ≡ Root w = sym (ap (λ r. r.object.placement) p.row) ∙ root in
      let link : links_in s.places.spots o ≡ Some (record { owner = w; next = p.spot.next; prev = p.spot.prev }) = ap link_of p.is ∙ ap (λ x. link_by x p.spot.next p.spot.prev) placement in
      let some : o ≡ 0 → ⊥ = λ e. (let x : None ≡ Some p.spot = sym (ap (at s.places.spots) e) ∙ p.is in cc) in
      owner_may s ready w (h.links.roots o _ link some).has

  kept_hung : (o parent place : ℕ) (r : HeapRow) → row_of (rows_in s.places.spots) o ≡ Some r → r.object.placement ≡ Hung parent place → HangsWell (rows_in s.places.spots) r parent place
  kept_hung o parent place r is hangs =
      let p = spot_at s.places.spots o r is in
      let placement : p.spot.placement ≡ Hung parent place = sym (ap (λ r. r.object.placement) p.row) ∙ hangs in
      let x = h.nested.hangs o (nest_of p.spot) _ (nest_at o p.spot p.is) (ap cell_of placement) in
      let leaves : r.leaves ≡ p.spot.leaves = ap (λ r. r.leaves) p.row in
      record {
        low = ap (λ r. r.nests) p.row ∙ ap (λ xs. not (length xs == 0)) x.low;
        with_parent = λ q there. (
            let u = spot_at s.places.spots parent q there in
            let i = x.in_parent (nest_of u.spot) (nest_at parent u.spot u.is) in
            let lt : place < length u.spot.below = i.1 in
            let wide : length u.spot.below ≡ length u.spot.cells = h.nested.wide parent (nest_of u.spot) (nest_at parent u.spot u.is) (omega arith) in (
              ap (λ r. r.nests) u.row ∙ ap not (ne_eqb (length u.spot.below) 0 (λ e. omega arith)),
              subst (λ (r : HeapRow). place < length r.object.cells) (sym u.row) (omega arith),
              leaves ∙ (i.2 ∙ sym (ap (λ r. r.leaves) u.row)),
            ));
        without_parent = λ gone. leaves ∙ x.alone (ap (option_map nest_of) (row_gone s.places.spots parent gone));
      }

  kept_alone : (o u parent place : ℕ) (r q : HeapRow) → row_of (rows_in s.places.spots) o ≡ Some r → row_of (rows_in s.places.spots) u ≡ Some q → r.object.placement ≡ Hung parent place → q.object.placement ≡ Hung parent place → o ≡ u
  kept_alone o u parent place r q is is' a b =
      let x = spot_at s.places.spots o r is in
      let y = spot_at s.places.spots u q is' in
      h.nested.alone o u (nest_of x.spot) (nest_of y.spot) (record { parent = parent; place = place }) (nest_at o x.spot x.is) (nest_at u y.spot y.is)
      (ap cell_of (sym (ap (λ r. r.object.placement) x.row) ∙ a)) (ap cell_of (sym (ap (λ r. r.object.placement) y.row) ∙ b))

  kept_roots : (o : ℕ) (r : HeapRow) → row_of (rows_in s.places.spots) o ≡ Some r → r.nests ≡ true → IsRoot (rows_in s.places.spots) o
  kept_roots o r is nests = go r.object.placement refl
    where
      go : (x : Placement) → r.object.placement ≡ x → IsRoot (rows_in s.places.spots) o
      go (Root w) e = root_is (rows_in s.places.spots) o r is w e
      go (Hung parent place) e = absurd (both_ways r.nests (kept_hung o parent place r is e).low nests)

  pub kept_heap : IsHeapOf (heap_seen s ready)
  kept_heap = record {
    numbered = λ o r is. (let p = spot_at s.places.spots o r is in ap (λ r. r.object.number) p.row ∙ h.numbered o p.spot p.is);
    owned = kept_owned;
    hung = kept_hung;
    alone = kept_alone;
    roots = kept_roots;
  }

  -- what an object's cell names hangs there
  hangs_named : (o cell : ℕ) (q : Spot) → at s.places.spots o ≡ Some q → q.leaves ≡ false → 0 < slice_index_or q.below cell 0 → hung_at (rows_in s.places.spots) o cell ≡ Some (slice_index_or q.below cell 0)
  hangs_named o cell q is stays pos = go (at s.places.spots (slice_index_or q.below cell 0)) refl
    where
      go : (x : Option Spot) → at s.places.spots (slice_index_or q.below cell 0) ≡ x → hung_at (rows_in s.places.spots) o cell ≡ Some (slice_index_or q.below cell 0)
      go None e = absurd (both_ways q.leaves stays ((h.nested.holds o cell (slice_index_or q.below cell 0) (nest_of q) (nest_at o q is) refl pos).gone (ap (option_map nest_of) e)))
      go (Some p) e =
          let hung = (h.nested.holds o cell (slice_index_or q.below cell 0) (nest_of q) (nest_at o q is) refl pos).there (nest_of p) (nest_at _ p e) in
          let placement : p.placement ≡ Hung o cell = cell_hung p.placement hung in
          hung_alone (rows_in s.places.spots) o cell (slice_index_or q.below cell 0) (row_of_spot p) kept_heap.numbered (row_there s.places.spots _ p e) placement
          (λ u r is' hangs. kept_alone u (slice_index_or q.below cell 0) o cell r (row_of_spot p) is' (row_there s.places.spots _ p e) hangs placement)
        where
          cell_hung : (x : Placement) → cell_of x ≡ Some (record { parent = o; place = cell }) → x ≡ Hung o cell
          cell_hung (Root w) e = absurd cc
          cell_hung (Hung parent place) e =
              let a : parent ≡ o = ap (λ (x : Option Cell). option_map_or (λ (c : Cell). c.parent) x 0) e in
              let b : place ≡ cell = ap (λ (x : Option Cell). option_map_or (λ (c : Cell). c.place) x 0) e in
              cc

  -- where it names nothing, nothing does
  hangs_none : (o cell : ℕ) (q : Spot) → at s.places.spots o ≡ Some q → slice_index_or q.below cell 0 ≡ 0 → hung_at (rows_in s.places.spots) o cell ≡ None
  hangs_none o cell q is none = go (hung_at (rows_in s.places.spots) o cell) refl
    where
      go : (x : Option ℕ) → hung_at (rows_in s.places.spots) o cell ≡ x → hung_at (rows_in s.places.spots) o cell ≡ None
      go None e = e
      go (Some v) e =
          let a = hung_there (rows_in s.places.spots) o cell v kept_heap.numbered e in
          let p = spot_at s.places.spots v a.row a.is in
          let placement : p.spot.placement ≡ Hung o cell = sym (ap (λ r. r.object.placement) p.row) ∙ a.hangs in
          let named = ((h.nested.hangs v (nest_of p.spot) _ (nest_at v p.spot p.is) (ap cell_of placement)).in_parent (nest_of q) (nest_at o q is)).0 in
          let zero_is : v ≡ 0 = sym named ∙ none in
          absurd (let x : None ≡ Some p.spot = sym (ap (at s.places.spots) zero_is) ∙ p.is in cc)

  -- what a look at a cell finds
  pub found_none : (o cell : ℕ) (r : HeapRow) → row_of (rows_in s.places.spots) o ≡ Some r → below_in (at s.places.spots o) cell ≡ 0 → hung_at (rows_in s.places.spots) o cell ≡ None
  found_none o cell r is none =
      let p = spot_at s.places.spots o r is in
      hangs_none o cell p.spot p.is (sym (ap (λ x. below_in x cell) p.is) ∙ none)

  pub found_some : (o cell v : ℕ) (r : HeapRow) → row_of (rows_in s.places.spots) o ≡ Some r → r.leaves ≡ false → v ≡ below_in (at s.places.spots o) cell → 0 < v → hung_at (rows_in s.places.spots) o cell ≡ Some v
  found_some o cell v r is stays e pos =
      let p = spot_at s.places.spots o r is in
      let v_is : v ≡ slice_index_or p.spot.below cell 0 = e ∙ ap (λ x. below_in x cell) p.is in
      hangs_named o cell p.spot p.is (sym (ap (λ r. r.leaves) p.row) ∙ stays) (subst (λ (k : ℕ). 0 < k) v_is pos) ∙ ap Some (sym v_is)

-- the row of what is there
pub there_row : (rows : HeapRows) (o : ℕ) → is_there rows o ≡ true → (r : HeapRow) × (row_of rows o ≡ Some r)
there_row rows o there = go (row_of rows o) refl there
  where
    go : (x : Option HeapRow) → row_of rows o ≡ x → is_some x ≡ true → (r : HeapRow) × (row_of rows o ≡ Some r)
    go None is e = absurd cc
    go (Some r) is e = (r, is)
