-- A store from which a root has been taken out, and an empty one.
use Rattle.std.proofs.Common.{◌≡◌, ℕ, zero, suc, ◌+◌, ◌-◌, ◌<◌, ◌==◌, ◌||◌, Bool, true, false, List, [], ◌∷◌, length, map, Option, Some, None, refl, sym, ap, ◌∙◌, subst, arith, inl, inr}
use Rattle.std.specs.Prelude.{slice_index_or, slice_get, slice_set, is_some}
use Rattle.std.specs.Option.{option_map, option_map_or}
use Rattle.std.proofs.lemmas.Bool.{cases_eq, cases_Bool, eq-eqb}
use Rattle.std.proofs.lemmas.List.{length-map}
use Rattle.machine_defs.specs.Arguments.{has}
use Rattle.rref_heap.specs.HeapValue.{HeapRow, HeapRows, heap_objects, leaves_at}
use Rattle.rref_heap.specs.Changing.{hangs_below, with_leaving, unless}
use Rattle.rref_heap.specs.Spots.{Spot, Spots, PlacesValue, at, Numbered, unless_spot, row_at, rows_in}
use Rattle.rref_heap.specs.Links.{FirstRows, first_in, first_after, Link, LinksBut, link_of, links_in}
use Rattle.rref_heap.specs.declared.store.Store.{Store}
use Rattle.rref_heap.specs.Store.{Cell, Nest, nest_of, nests_in, leaves_in, IsNested, Hanged, IsListing, Lists, IsStore, Becomes, Distinct, if_below}
use Rattle.rref_heap.proofs.Spots.{same_some, unequal, at_map, at_unless, here_unless, at_within, numbered_unless, taken}
use Rattle.machine_defs.specs.declared.values.Owner.{Owner}
use Rattle.machine_defs.specs.declared.values.Owner.TheVariants as owner
use Rattle.rref_heap.proofs.Links.{same_links, out_gone, around, if_link}
use Rattle.rref_heap.proofs.Leavers.{count_gone}
use Rattle.rref_heap.proofs.Passing.{apart, apart_each, quiet_apart, rows_apart, out_of_links, widths_after, row_at_is}
use Rattle.rref_heap.proofs.Below.{hangs_cell, cell_hangs, link_marked, nest_marked, root_nest, or_right}

abbrev pub hung_marked : ℕ → Nest → Nest
hung_marked o p = record p { leaves = hangs_cell o p.hung || p.leaves }

pub nests_below : (o : ℕ) (spots : Spots) (n : ℕ) → nests_in (map (if_below o) spots) n ≡ option_map (hung_marked o) (nests_in spots n)
nests_below o spots n = ap (λ (x : Option Spot). option_map nest_of x) (at_map (if_below o) refl spots n) ∙ go (at spots n)
  where
    go : (x : Option Spot) → option_map nest_of (if_below o x) ≡ option_map (hung_marked o) (option_map nest_of x)
    go None = refl
    go (Some p) = ap Some (nest_marked p (hangs_below o p.placement) ∙ ap (λ (b : Bool). record (nest_of p) { leaves = b || p.leaves }) (cell_hangs p.placement o))

pub links_below : (o : ℕ) (spots : Spots) (n : ℕ) → links_in (map (if_below o) spots) n ≡ links_in spots n
links_below o spots n = ap link_of (at_map (if_below o) refl spots n) ∙ go (at spots n)
  where
    go : (x : Option Spot) → link_of (if_below o x) ≡ link_of x
    go None = refl
    go (Some p) = link_marked p (hangs_below o p.placement)

pub count_below : (o : ℕ) (spots : Spots) → length (heap_objects (rows_in (map (if_below o) spots))) ≡ length (heap_objects (rows_in spots))
count_below o [] = refl
count_below o (None ∷ xs) = count_below o xs
count_below o (Some p ∷ xs) = ap (λ n. suc n) (count_below o xs)

pub rows_unless : (o : ℕ) (spots : Spots) → rows_in (map (unless_spot o) spots) ≡ map (unless o) (rows_in spots)
rows_unless o [] = refl
rows_unless o (None ∷ xs) = ap (λ (l : HeapRows). None ∷ l) (rows_unless o xs)
rows_unless o (Some p ∷ xs) = elim (cases_Bool (p.number == o)) [
  | inl e ↦ rw (e, rows_unless o xs) refl
  | inr e ↦ rw (e, rows_unless o xs) refl
]

drop_one : (o : ℕ) (p : Spot) (a b : Bool) → (p.number == o) ≡ a → hangs_below o p.placement ≡ b → unless o (row_at (if_below o (Some p))) ≡ with_leaving o (unless o (row_at (Some p)))
drop_one o p true true e f = rw (f, e) refl
drop_one o p true false e f = rw (f, e) refl
drop_one o p false true e f = rw (f, e) (rw (e, f) refl)
drop_one o p false false e f = rw (f, e) (rw (e, f) refl)

pub rows_dropped : (o : ℕ) (spots : Spots) → map (unless o) (rows_in (map (if_below o) spots)) ≡ map (with_leaving o) (map (unless o) (rows_in spots))
rows_dropped o [] = refl
rows_dropped o (None ∷ xs) = ap (λ (l : HeapRows). None ∷ l) (rows_dropped o xs)
rows_dropped o (Some p ∷ xs) = ap (λ (l : HeapRows). unless o (row_at (if_below o (Some p))) ∷ l) (rows_dropped o xs) ∙ ap (λ (x : Option HeapRow). x ∷ map (with_leaving o) (map (unless o) (rows_in xs))) (drop_one o p (p.number == o) (hangs_below o p.placement) refl refl)

-- how objects hang where a root has gone and what hung in it is marked
module _ (N M : ℕ → Option Nest) (top o : ℕ) (h : IsNested N top) (root : (p : Nest) → N o ≡ Some p → p.hung ≡ None) (there : is_some (N o) ≡ true) (gone : M o ≡ None) (each : (n : ℕ) → (n ≡ o → ⊥) → M n ≡ option_map (hung_marked o) (N n)) where
  record Once (n : ℕ) (r : Nest) : Type 0 where
    nest : Nest
    other : n ≡ o → ⊥
    was : N n ≡ Some nest
    now : r ≡ hung_marked o nest

  once_of : (n : ℕ) (r : Nest) → M n ≡ Some r → Once n r
  once_of n r is = go (N n) refl
    where
      other : n ≡ o → ⊥
      other e = let k : None ≡ Some r = sym gone ∙ (ap M (sym e) ∙ is) in cc

      go : (x : Option Nest) → N n ≡ x → Once n r
      go None e = absurd (let k : None ≡ Some r = sym (each n other ∙ ap (option_map (hung_marked o)) e) ∙ is in cc)
      go (Some q) e = record { nest = q; other = other; was = e; now = same_some (sym is ∙ (each n other ∙ ap (option_map (hung_marked o)) e)) }

  none_of : (n : ℕ) → (n ≡ o → ⊥) → M n ≡ None → N n ≡ None
  none_of n other is = go (N n) refl
    where
      go : (x : Option Nest) → N n ≡ x → N n ≡ None
      go None e = e
      go (Some q) e = absurd (let k : Some (hung_marked o q) ≡ None = sym (each n other ∙ ap (option_map (hung_marked o)) e) ∙ is in cc)

  hangs_now : (n : ℕ) (r : Nest) (c : Cell) → M n ≡ Some r → r.hung ≡ Some c → Hanged M c n r
  hangs_now n r c is hung =
      let b = once_of n r is in
      let p = b.nest in
      let p_hung : p.hung ≡ Some c = sym (ap (λ (x : Nest). x.hung) b.now) ∙ hung in
      let x = h.hangs n p c b.was p_hung in
      let r_leaves : r.leaves ≡ ((c.parent == o) || p.leaves) = ap (λ (y : Nest). y.leaves) b.now ∙ (rw p_hung refl) in
      record {
        low = ap (λ (y : Nest). y.below) b.now ∙ x.low;
        in_parent = λ q' at_parent. (
            let a = once_of c.parent q' at_parent in
            let q = a.nest in
            let y = x.in_parent q a.was in
            let below_same : q'.below ≡ q.below = ap (λ (z : Nest). z.below) a.now in
            let q_hung : q.hung ≡ None = top_of c.parent q a.was c.place y.1 in
            let q_leaves : q'.leaves ≡ q.leaves = ap (λ (z : Nest). z.leaves) a.now ∙ (rw q_hung refl) in
            (ap (λ (l : List ℕ). slice_index_or l c.place 0) below_same ∙ y.0, subst (λ (l : List ℕ). c.place < length l) (sym below_same) y.1, r_leaves ∙ (rw (unequal c.parent o a.other) (y.2 ∙ sym q_leaves))));
        alone = λ none. elim (cases_eq c.parent o) [
          | inl e ↦ r_leaves ∙ (rw (eq-eqb c.parent o e) refl)
          | inr ne ↦ r_leaves ∙ or_right (c.parent == o) p.leaves (x.alone (none_of c.parent ne none))
        ];
      }
    where
      top_of : (m : ℕ) (q : Nest) → N m ≡ Some q → (k : ℕ) → k < length q.below → q.hung ≡ None
      top_of m q at_m k lt = go q.hung refl
        where
          go : (y : Option Cell) → q.hung ≡ y → q.hung ≡ None
          go None e = e
          go (Some d) e = absurd (let z = (h.hangs m q d at_m e).low in let l : length q.below ≡ 0 = ap length z in omega arith)

  root_is : (x : Option Nest) → N o ≡ x → (n place : ℕ) → ((p : Nest) → N o ≡ Some p → p.hung ≡ Some (record { parent = n; place = place })) → ⊥
  root_is None e n place f = let k : false ≡ true = sym (ap (λ (x : Option Nest). is_some x) e) ∙ there in cc
  root_is (Some q) e n place f = let c : Cell = record { parent = n; place = place } in let k : None ≡ Some c = sym (root q e) ∙ f q e in cc

  pub nested_dropped : IsNested M top
  nested_dropped = record {
    hangs = hangs_now;
    holds = λ n place v r is cell pos. (
        let b = once_of n r is in
        let x = h.holds n place v b.nest b.was (ap (λ (l : List ℕ). slice_index_or l place 0) (sym (ap (λ (y : Nest). y.below) b.now)) ∙ cell) pos in
        record {
          there = λ p at_v. (let a = once_of v p at_v in ap (λ (y : Nest). y.hung) a.now ∙ x.there a.nest a.was);
          gone = λ none. elim (cases_eq v o) [
            | inl e ↦ absurd (root_is (N o) refl n place (λ p at_o. x.there p (ap N e ∙ at_o)))
            | inr ne ↦ ap (λ (y : Nest). y.leaves) b.now ∙ or_right (hangs_cell o b.nest.hung) b.nest.leaves (x.gone (none_of v ne none))
          ];
        });
    wide = λ n r is pos. (
        let b = once_of n r is in
        let same : r.below ≡ b.nest.below = ap (λ (y : Nest). y.below) b.now in
        ap length same ∙ (h.wide n b.nest b.was (subst (λ (l : List ℕ). 0 < length l) same pos) ∙ sym (ap (λ (y : Nest). y.width) b.now)));
    parents = λ n r c is hung. (let b = once_of n r is in h.parents n b.nest c b.was (sym (ap (λ (y : Nest). y.hung) b.now) ∙ hung));
    past = λ n place v r is cell. (let b = once_of n r is in h.past n place v b.nest b.was (ap (λ (l : List ℕ). slice_index_or l place 0) (sym (ap (λ (y : Nest). y.below) b.now)) ∙ cell));
    alone = λ n u r q c is is' a b. (let x = once_of n r is in let y = once_of u q is' in h.alone n u x.nest y.nest c x.was y.was (sym (ap (λ (k : Nest). k.hung) x.now) ∙ a) (sym (ap (λ (k : Nest). k.hung) y.now) ∙ b));
  }

nest_there : (x : Option Spot) → is_some (link_of x) ≡ true → is_some (option_map nest_of x) ≡ true
nest_there None e = absurd cc
nest_there (Some p) e = refl

some_link : (x : Option Link) → is_some x ≡ true → (p : Link) × (x ≡ Some p)
some_link None e = absurd cc
some_link (Some p) e = (p, refl)

spot_of_link : (x : Option Spot) (p : Link) → link_of x ≡ Some p → (q : Spot) × (x ≡ Some q)
spot_of_link None p e = absurd cc
spot_of_link (Some q) p e = (q, refl)

pub count_without : (spots : Spots) (o : ℕ) (q : Spot) → Numbered spots → at spots o ≡ Some q → length (heap_objects (rows_in spots)) ≡ suc (length (heap_objects (rows_in (map (unless_spot o) spots))))
count_without spots zero q numbered is = absurd cc
count_without spots (suc k) q numbered is =
    let w = at_within spots (suc k) q is in
    let j : suc k - 1 ≡ k = omega arith in
    let e : slice_set spots k None ≡ map (unless_spot (suc k)) spots = ap (λ (i : ℕ). slice_set spots i None) (sym j) ∙ taken spots (suc k) w.0 w.1 numbered in
    count_gone spots k q is ∙ ap (λ (y : Spots). suc (length (heap_objects (rows_in y)))) e

pub dropped : (s l : Store) (o : ℕ) (p : Link) (z : Store) → IsStore s → links_in s.places.spots o ≡ Some p → leaves_in (nests_in s.places.spots o) ≡ false → Lists s l (map (if_below o) s.places.spots)
    → z.places ≡ record { spots = map (unless_spot o) (apart p l.places.spots); spare = l.places.spare } → z.firsts ≡ first_after l.firsts p.owner p.prev p.next → z.listing ≡ l.listing → z.live + 1 ≡ l.live
    → Becomes s z (map (with_leaving o) (map (unless o) (rows_in s.places.spots)))
dropped s l o p z h is stays a places firsts listing live =
    let old : Spots = s.places.spots in
    let one : Spots = map (if_below o) old in
    let two : Spots = apart p one in
    let three : Spots = map (unless_spot o) two in
    let l_spots : l.places.spots ≡ one = ap (λ (v : PlacesValue). v.spots) a.places in
    let spots : z.places.spots ≡ three = ap (λ (v : PlacesValue). v.spots) places ∙ ap (λ (y : Spots). map (unless_spot o) (apart p y)) l_spots in
    let numbered1 : Numbered one = subst Numbered l_spots a.listable.numbered in
    let qa = quiet_apart p one numbered1 in
    let numbered3 : Numbered three = numbered_unless two o qa.numbered in
    let is1 : links_in one o ≡ Some p = links_below o old o ∙ is in
    let links1 : LinksBut (links_in one) s.firsts 0 = same_links (links_in old) (links_in one) s.firsts 0 (links_below o old) h.links in
    let links2 = out_of_links one s.firsts o p numbered1 links1 is1 in
    let gone : at three o ≡ None = at_map (unless_spot o) refl two o ∙ here_unless o two qa.numbered in
    let other : (n : ℕ) → (n ≡ o → ⊥) → at three n ≡ at two n = λ n ne. at_map (unless_spot o) refl two n ∙ at_unless o two qa.numbered n ne in
    let links3 : LinksBut (links_in three) (first_after s.firsts p.owner p.prev p.next) 0 = out_gone (links_in two) (links_in three) (first_after s.firsts p.owner p.prev p.next) o (ap link_of gone) (λ n ne. ap link_of (other n ne)) links2 in
    let there : is_some (links_in old o) ≡ true = ap (λ (x : Option Link). is_some x) is in
    let nest_each : (n : ℕ) → (n ≡ o → ⊥) → nests_in three n ≡ option_map (hung_marked o) (nests_in old n) = λ n ne. ap (λ (x : Option Spot). option_map nest_of x) (other n ne) ∙ (qa.nests n ∙ nests_below o old n) in
    let nested3 : IsNested (nests_in three) (length old) = nested_dropped (nests_in old) (nests_in three) (length old) o h.nested (root_nest old o there) (nest_there (at old o) there) (ap (λ (x : Option Spot). option_map nest_of x) gone) nest_each in
    let q = spot_of_link (at two o) _ (apart_is one numbered1 is1) in
    let c = count_without two o q.0 qa.numbered q.1 in
    let c0 = count_below o old in
    let qc = qa.count in
    let hc = h.count in
    let count3 : length (heap_objects (rows_in z.places.spots)) ≡ length (heap_objects (rows_in three)) = ap (λ (y : Spots). length (heap_objects (rows_in y))) spots in
    let l_live = a.live in
    let l_same = a.same in
    let same : length z.listing.numbers + z.listing.spare ≡ length s.listing.numbers + s.listing.spare = ap (λ x. length x.numbers + x.spare) listing ∙ a.same in
    let room = h.room in
    let f' : z.firsts ≡ first_after s.firsts p.owner p.prev p.next = firsts ∙ ap (λ (f : FirstRows). first_after f p.owner p.prev p.next) a.firsts in
    let w = widths_after s.firsts p.owner p.prev p.next in
    let len : length z.places.spots ≡ length old = ap length spots ∙ (length-map two (unless_spot o) ∙ (qa.len ∙ length-map old (if_below o))) in
    let o_stays : leaves_in (nests_in one o) ≡ false = ap (λ (x : Option Nest). leaves_in x) (nests_below o old o) ∙ unmarked (nests_in old o) (root_nest old o there) stays in
    let list3 : IsListing (nests_in three) z.listing.numbers = record {
      same = λ n. subst (λ (k : List ℕ). has k n ≡ leaves_in (nests_in three n)) (sym (ap (λ x. x.numbers) listing)) (a.listable.listed.same n ∙ (ap (λ (y : Spots). leaves_in (nests_in y n)) l_spots ∙ elim (cases_eq n o) [
        | inl e ↦ (ap (λ (k : ℕ). leaves_in (nests_in one k)) e ∙ (o_stays ∙ sym (ap (λ (k : ℕ). leaves_in (nests_in three k)) e ∙ ap (λ (x : Option Spot). leaves_in (option_map nest_of x)) gone)))
        | inr ne ↦ sym (ap (λ (x : Option Spot). leaves_in (option_map nest_of x)) (other n ne) ∙ ap (λ (x : Option Nest). leaves_in x) (qa.nests n))
      ]));
      once = subst Distinct (sym (ap (λ x. x.numbers) listing)) a.listable.listed.once;
    } in
    record {
      store = record {
        numbered = subst Numbered (sym spots) numbered3;
        links = subst (λ (y : Spots). LinksBut (links_in y) z.firsts 0) (sym spots) (subst (λ (f : FirstRows). LinksBut (links_in three) f 0) (sym f') links3);
        nested = subst (λ (k : ℕ). IsNested (nests_in z.places.spots) k) (sym len) (subst (λ (y : Spots). IsNested (nests_in y) (length old)) (sym spots) nested3);
        listed = subst (λ (y : Spots). IsListing (nests_in y) z.listing.numbers) (sym spots) list3;
        count = omega arith;
        room = omega arith;
      };
      seen = ap rows_in spots ∙ (rows_unless o two ∙ (ap (map (unless o)) (rows_apart p one) ∙ rows_dropped o old));
      spare = ap (λ (v : PlacesValue). v.spare) places ∙ ap (λ (v : PlacesValue). v.spare) a.places;
      clients = ap (λ (f : FirstRows). length f.clients) f' ∙ w.clients;
      instances = ap (λ (f : FirstRows). length f.instances) f' ∙ w.instances;
      fewer = omega arith;
      room = same;
    }
  where
    unmarked : (x : Option Nest) → ((q : Nest) → x ≡ Some q → q.hung ≡ None) → leaves_in x ≡ false → leaves_in (option_map (hung_marked o) x) ≡ false
    unmarked None f e = refl
    unmarked (Some q) f e = rw (f q refl) e

    apart_is : (ys : Spots) → Numbered ys → links_in ys o ≡ Some p → link_of (at (apart p ys) o) ≡ Some (around p o p)
    apart_is ys numbered e = apart_each p ys numbered o ∙ ap (if_link (around p o)) e

-- a store without objects
pub empty_store : (s : Store) → s.places.spots ≡ [] → s.firsts ≡ record { clients = []; instances = [] } → s.listing.numbers ≡ [] → s.live ≡ 0 → IsStore s
empty_store s spots firsts numbers live = record {
  numbered = subst Numbered (sym spots) (λ n p is. absurd (none n p is));
  links = subst (λ (y : Spots). LinksBut (links_in y) s.firsts 0) (sym spots) (subst (λ (f : FirstRows). LinksBut (links_in []) f 0) (sym firsts) (record {
    stamp = λ n. 0;
    top = 0;
    none = refl;
    roots = λ n p is ne. absurd (no_link n p is);
    heads = λ w pos. absurd (no_first w pos);
  }));
  nested = subst (λ (y : Spots). IsNested (nests_in y) (length y)) (sym spots) (record {
    hangs = λ n p c is hung. absurd (no_nest n p is);
    holds = λ n place v q is cell pos. absurd (no_nest n q is);
    wide = λ n p is pos. absurd (no_nest n p is);
    parents = λ n p c is hung. absurd (no_nest n p is);
    past = λ n place v q is cell. absurd (no_nest n q is);
    alone = λ n u q r c is is' a b. absurd (no_nest n q is);
  });
  listed = subst (λ (y : Spots). IsListing (nests_in y) s.listing.numbers) (sym spots) (subst (λ (k : List ℕ). IsListing (nests_in []) k) (sym numbers) (record { same = nothing; once = tt }));
  count = live ∙ sym (ap (λ (y : Spots). length (heap_objects (rows_in y))) spots);
  room = omega arith;
}
  where
    none : (n : ℕ) (p : Spot) → at [] n ≡ Some p → ⊥
    none zero p is = cc
    none (suc k) p is = cc

    no_link : (n : ℕ) (p : Link) → links_in [] n ≡ Some p → ⊥
    no_link zero p is = cc
    no_link (suc k) p is = cc

    no_nest : (n : ℕ) (p : Nest) → nests_in [] n ≡ Some p → ⊥
    no_nest zero p is = cc
    no_nest (suc k) p is = cc

    no_first : (w : Owner) → 0 < first_in (record { clients = []; instances = [] }) w → ⊥
    no_first (owner.Client c) pos = omega arith
    no_first (owner.Instance i) pos = omega arith

    nothing : (n : ℕ) → has [] n ≡ leaves_in (nests_in [] n)
    nothing zero = refl
    nothing (suc k) = refl

pub got_cell : (xs : List ℕ) (k x : ℕ) → k < length xs → x ≡ slice_index_or xs k x → slice_get xs k ≡ Some x
got_cell [] k x lt is = absurd (omega arith)
got_cell (y ∷ ys) zero x lt is = ap Some (sym is)
got_cell (y ∷ ys) (suc k) x lt is = got_cell ys k x (omega arith) is

pub some_live : (s : Store) (o : ℕ) → IsStore s → is_some (links_in s.places.spots o) ≡ true → 0 < s.live
some_live s o h root =
    let p = some_link (links_in s.places.spots o) root in
    let q = spot_of_link (at s.places.spots o) p.0 p.1 in
    let c = count_without s.places.spots o q.0 h.numbered q.1 in
    let live = h.count in
    omega arith

pub leaves_seen : (spots : Spots) (o : ℕ) → leaves_at (rows_in spots) o ≡ leaves_in (nests_in spots o)
leaves_seen spots o = ap (λ (x : Option HeapRow). option_map_or (λ r. r.leaves) x false) (row_at_is spots o) ∙ go (at spots o)
  where
    go : (x : Option Spot) → option_map_or (λ r. r.leaves) (row_at x) false ≡ leaves_in (option_map nest_of x)
    go None = refl
    go (Some p) = refl
