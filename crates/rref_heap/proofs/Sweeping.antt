-- A store from which an object that leaves is taken out, and what a sweep makes of it.
use Rattle.std.proofs.Common.{◌≡◌, ℕ, zero, suc, ◌+◌, ◌-◌, ◌<◌, ◌==◌, ◌++◌, Bool, true, false, List, [], ◌∷◌, length, map, Option, Some, None, refl, sym, ap, ◌∙◌, subst, arith, inl, inr, append_assoc, length-append}
use Rattle.std.specs.Prelude.{IsPermutation, is_some}
use Rattle.std.specs.List.{slice_index_or}
use Rattle.std.specs.Option.{option_map, option_map_or}
use Rattle.std.proofs.lemmas.Bool.{cases_eq, cases_Bool, eqb-true}
use Rattle.std.proofs.lemmas.List.{length-map, append-nil}
use Rattle.std.proofs.lemmas.List.Sorted.{list_any-IsPermutation, length_permutation}
use Rattle.machine_defs.specs.Arguments.{has}
use Rattle.machine_defs.specs.declared.entry.Entry.{Entry}
use Rattle.machine_defs.specs.declared.entry.Entry.TheVariants as entry
use Rattle.rref_heap.specs.HeapValue.{HeapRow, HeapRows, heap_objects, leaves_at}
use Rattle.rref_heap.specs.Changing.{unless}
use Rattle.rref_heap.specs.Leaving.{swept_rows, leaving_in}
use Rattle.rref_heap.specs.Listing.{Falls, ListingValue}
use Rattle.rref_heap.specs.declared.place.Place.{Place}
use Rattle.rref_heap.specs.declared.place.Hanging.{Hanging}
use Rattle.rref_heap.specs.Spots.{Spot, Spots, PlacesValue, at, Numbered, on_spot, unless_spot, spot_of, rows_in, to_next, to_prev}
use Rattle.rref_heap.specs.Links.{FirstRows, first_after, Link, LinksBut, link_of, links_in}
use Rattle.rref_heap.specs.declared.store.Store.{Store}
use Rattle.rref_heap.specs.Store.{Cell, Nest, nest_of, nests_in, leaves_in, IsNested, IsListing, IsStore, Becomes, Distinct, TakesLast, without_links}
use Rattle.rref_heap.proofs.Spots.{at_map, at_unless, here_unless, numbered_unless}
use Rattle.rref_heap.proofs.Links.{same_links, out_gone}
use Rattle.rref_heap.proofs.Quiet.{Quiet}
use Rattle.rref_heap.proofs.Passing.{apart, quiet_apart, rows_apart, out_of_links, widths_after, becomes_then}
use Rattle.rref_heap.proofs.Rows.{spot_at}
use Rattle.rref_heap.proofs.Objects.{IsNumbered, NumberedBehind, numbered_behind, numbered_tail, numbered_head}
use Rattle.rref_heap.proofs.OwnerEnds.{Stay, none_leaves}
use Rattle.rref_heap.proofs.Dropping.{rows_unless, count_without, leaves_seen}
use Rattle.rref_heap.proofs.Listed.{Rises, rises_above, rises_from, rises_down, none_at_or_below, has_head, has_behind, has_pushed, has_unpushed, same_rising, falls_last, falls_before, distinct_before, distinct_sorted}

-- how objects hang where one that leaves has gone
module _ (N M : ℕ → Option Nest) (top o : ℕ) (h : IsNested N top) (q : Nest) (was : N o ≡ Some q) (leaves : q.leaves ≡ true) (gone : M o ≡ None) (each : (n : ℕ) → (n ≡ o → ⊥) → M n ≡ N n) where
  other : (n : ℕ) (r : Nest) → M n ≡ Some r → n ≡ o → ⊥
  other n r is e = let k : None ≡ Some r = sym gone ∙ (ap M (sym e) ∙ is) in cc

  before : (n : ℕ) (r : Nest) → M n ≡ Some r → N n ≡ Some r
  before n r is = sym (each n (other n r is)) ∙ is

  pub nested_gone : IsNested M top
  nested_gone = record {
    hangs = λ n p c is hung. (
        let x = h.hangs n p c (before n p is) hung in
        record {
          low = x.low;
          in_parent = λ r at_parent. x.in_parent r (before c.parent r at_parent);
          alone = λ none. elim (cases_eq c.parent o) [
            | inl e ↦ (let y = x.in_parent q (ap N e ∙ was) in y.2 ∙ leaves)
            | inr ne ↦ x.alone (sym (each c.parent ne) ∙ none)
          ];
        });
    holds = λ n place v r is cell pos. (
        let x = h.holds n place v r (before n r is) cell pos in
        record {
          there = λ p at_v. x.there p (before v p at_v);
          gone = λ none. elim (cases_eq v o) [
            | inl e ↦ (
                let c : Cell = record { parent = n; place = place } in
                let y = h.hangs o q c was (x.there q (ap N e ∙ was)) in
                let z = y.in_parent r (before n r is) in
                sym z.2 ∙ leaves)
            | inr ne ↦ x.gone (sym (each v ne) ∙ none)
          ];
        });
    wide = λ n r is. h.wide n r (before n r is);
    parents = λ n r c is. h.parents n r c (before n r is);
    past = λ n place v r is. h.past n place v r (before n r is);
    alone = λ n u p r c is is'. h.alone n u p r c (before n p is) (before u r is');
  }

-- One that leaves, and is listed last, is taken out of spots that differ from the store's in links alone.
pub removed : (s z : Store) (o : ℕ) (q : Spot) (two : Spots) → IsStore s → at s.places.spots o ≡ Some q → s.listing.numbers ≡ z.listing.numbers ++ o ∷ []
    → z.places ≡ record { spots = map (unless_spot o) two; spare = s.places.spare } → Quiet s.places.spots two → rows_in two ≡ rows_in s.places.spots
    → LinksBut (links_in (map (unless_spot o) two)) z.firsts 0 → length z.firsts.clients ≡ length s.firsts.clients → length z.firsts.instances ≡ length s.firsts.instances
    → z.live + 1 ≡ s.live → z.listing.spare + length z.listing.numbers ≡ s.listing.spare + length s.listing.numbers
    → Becomes s z (map (unless o) (rows_in s.places.spots))
removed s z o q two h is numbers places quiet seen links clients instances live room =
    let old : Spots = s.places.spots in
    let three : Spots = map (unless_spot o) two in
    let spots : z.places.spots ≡ three = ap (λ (v : PlacesValue). v.spots) places in
    let gone : at three o ≡ None = at_map (unless_spot o) refl two o ∙ here_unless o two quiet.numbered in
    let other : (n : ℕ) → (n ≡ o → ⊥) → at three n ≡ at two n = λ n ne. at_map (unless_spot o) refl two n ∙ at_unless o two quiet.numbered n ne in
    let d = distinct_before o z.listing.numbers (subst Distinct numbers h.listed.once) in
    let listed : has s.listing.numbers o ≡ true = ap (λ (l : List ℕ). has l o) numbers ∙ has_pushed z.listing.numbers o o refl in
    let nest_is : nests_in old o ≡ Some (nest_of q) = ap (λ (x : Option Spot). option_map nest_of x) is in
    let leaves : q.leaves ≡ true = sym (h.listed.same o ∙ ap (λ (x : Option Nest). leaves_in x) nest_is) ∙ listed in
    let nests_gone : nests_in three o ≡ None = ap (λ (x : Option Spot). option_map nest_of x) gone in
    let nests_other : (n : ℕ) → (n ≡ o → ⊥) → nests_in three n ≡ nests_in old n = λ n ne. ap (λ (x : Option Spot). option_map nest_of x) (other n ne) ∙ quiet.nests n in
    let nested3 : IsNested (nests_in three) (length old) = nested_gone (nests_in old) (nests_in three) (length old) o h.nested (nest_of q) nest_is leaves nests_gone nests_other in
    let rows : rows_in z.places.spots ≡ map (unless o) (rows_in old) = ap rows_in spots ∙ (rows_unless o two ∙ ap (map (unless o)) seen) in
    let c = count_without old o q h.numbered is in
    let hc = h.count in
    let count3 : length (heap_objects (rows_in z.places.spots)) ≡ length (heap_objects (rows_in (map (unless_spot o) old))) = ap (λ (y : HeapRows). length (heap_objects y)) (rows ∙ sym (rows_unless o old)) in
    let hr = h.room in
    let len : length z.places.spots ≡ length old = ap length spots ∙ (length-map two (unless_spot o) ∙ quiet.len) in
    let list3 : IsListing (nests_in three) z.listing.numbers = record {
      same = λ n. elim (cases_eq n o) [
        | inl e ↦ ap (has z.listing.numbers) e ∙ (d.1 ∙ sym (ap (λ (k : ℕ). leaves_in (nests_in three k)) e ∙ ap (λ (x : Option Nest). leaves_in x) nests_gone))
        | inr ne ↦ sym (has_unpushed z.listing.numbers o n (λ e. ne (sym e))) ∙ (ap (λ (l : List ℕ). has l n) (sym numbers) ∙ (h.listed.same n ∙ sym (ap (λ (x : Option Nest). leaves_in x) (nests_other n ne))))
      ];
      once = d.0;
    } in
    record {
      store = record {
        numbered = subst Numbered (sym spots) (numbered_unless two o quiet.numbered);
        links = subst (λ (y : Spots). LinksBut (links_in y) z.firsts 0) (sym spots) links;
        nested = subst (λ (k : ℕ). IsNested (nests_in z.places.spots) k) (sym len) (subst (λ (y : Spots). IsNested (nests_in y) (length old)) (sym spots) nested3);
        listed = subst (λ (y : Spots). IsListing (nests_in y) z.listing.numbers) (sym spots) list3;
        count = omega arith;
        room = omega arith;
      };
      seen = rows;
      spare = ap (λ (v : PlacesValue). v.spare) places;
      clients = clients;
      instances = instances;
      fewer = omega arith;
      room = omega arith;
    }

-- taking out an object and a change of another's links come to the same in either order
on_unless : (k o : ℕ) (f : Spot → Spot) → ((q : Spot) → (f q).number ≡ q.number) → (spots : Spots) → map (on_spot k f) (map (unless_spot o) spots) ≡ map (unless_spot o) (map (on_spot k f) spots)
on_unless k o f keeps [] = refl
on_unless k o f keeps (None ∷ xs) = ap (λ (l : Spots). None ∷ l) (on_unless k o f keeps xs)
on_unless k o f keeps (Some p ∷ xs) = rw (on_unless k o f keeps xs) (ap (λ (x : Option Spot). x ∷ map (unless_spot o) (map (on_spot k f) xs)) (one (p.number == o) (p.number == k) refl refl))
  where
    one : (a b : Bool) → (p.number == o) ≡ a → (p.number == k) ≡ b → on_spot k f (unless_spot o (Some p)) ≡ unless_spot o (on_spot k f (Some p))
    one true true e g = let e' : ((f p).number == o) ≡ true = ap (λ (n : ℕ). n == o) (keeps p) ∙ e in rw (e, g, e') refl
    one true false e g = rw (e, g, e) refl
    one false true e g = let e' : ((f p).number == o) ≡ false = ap (λ (n : ℕ). n == o) (keeps p) ∙ e in rw (e, g, e') refl
    one false false e g = rw (e, g, e) refl

apart_unless : (p : Link) (o : ℕ) (spots : Spots) → apart p (map (unless_spot o) spots) ≡ map (unless_spot o) (apart p spots)
apart_unless p o spots = ap (map (on_spot p.next (to_prev p.prev))) (on_unless p.prev o (to_next p.next) (λ q. refl) spots) ∙ on_unless p.next o (to_prev p.prev) (λ q. refl) (map (on_spot p.prev (to_next p.next)) spots)

-- a root
pub removed_root : (s z : Store) (o : ℕ) (q : Spot) (p : Link) → IsStore s → at s.places.spots o ≡ Some q → link_of (Some q) ≡ Some p → s.listing.numbers ≡ z.listing.numbers ++ o ∷ []
    → z.places ≡ record { spots = apart p (map (unless_spot o) s.places.spots); spare = s.places.spare } → z.firsts ≡ first_after s.firsts p.owner p.prev p.next
    → z.live + 1 ≡ s.live → z.listing.spare + length z.listing.numbers ≡ s.listing.spare + length s.listing.numbers
    → Becomes s z (map (unless o) (rows_in s.places.spots))
removed_root s z o q p h is link numbers places firsts live room =
    let old : Spots = s.places.spots in
    let two : Spots = apart p old in
    let three : Spots = map (unless_spot o) two in
    let f : FirstRows = first_after s.firsts p.owner p.prev p.next in
    let qa = quiet_apart p old h.numbered in
    let links2 = out_of_links old s.firsts o p h.numbered h.links (ap link_of is ∙ link) in
    let gone : at three o ≡ None = at_map (unless_spot o) refl two o ∙ here_unless o two qa.numbered in
    let other : (n : ℕ) → (n ≡ o → ⊥) → at three n ≡ at two n = λ n ne. at_map (unless_spot o) refl two n ∙ at_unless o two qa.numbered n ne in
    let links3 : LinksBut (links_in three) f 0 = out_gone (links_in two) (links_in three) f o (ap link_of gone) (λ n ne. ap link_of (other n ne)) links2 in
    let w = widths_after s.firsts p.owner p.prev p.next in
    removed s z o q two h is numbers (places ∙ ap (λ (y : Spots). record { spots = y; spare = s.places.spare }) (apart_unless p o old)) qa (rows_apart p old)
    (subst (λ (g : FirstRows). LinksBut (links_in three) g 0) (sym firsts) links3)
    (ap (λ (g : FirstRows). length g.clients) firsts ∙ w.clients) (ap (λ (g : FirstRows). length g.instances) firsts ∙ w.instances) live room

-- one that hangs
pub removed_hung : (s z : Store) (o : ℕ) (q : Spot) → IsStore s → at s.places.spots o ≡ Some q → link_of (Some q) ≡ None → s.listing.numbers ≡ z.listing.numbers ++ o ∷ []
    → z.places ≡ record { spots = map (unless_spot o) s.places.spots; spare = s.places.spare } → z.firsts ≡ s.firsts
    → z.live + 1 ≡ s.live → z.listing.spare + length z.listing.numbers ≡ s.listing.spare + length s.listing.numbers
    → Becomes s z (map (unless o) (rows_in s.places.spots))
removed_hung s z o q h is link numbers places firsts live room =
    let old : Spots = s.places.spots in
    let three : Spots = map (unless_spot o) old in
    let gone : at three o ≡ None = at_map (unless_spot o) refl old o ∙ here_unless o old h.numbered in
    let other : (n : ℕ) → (n ≡ o → ⊥) → at three n ≡ at old n = λ n ne. at_map (unless_spot o) refl old n ∙ at_unless o old h.numbered n ne in
    let links3 : LinksBut (links_in three) s.firsts 0 = same_links (links_in old) (links_in three) s.firsts 0 (λ n. elim (cases_eq n o) [
      | inl e ↦ ap (links_in three) e ∙ (ap link_of gone ∙ sym (ap (links_in old) e ∙ (ap link_of is ∙ link)))
      | inr ne ↦ ap link_of (other n ne)
    ]) h.links in
    removed s z o q old h is numbers places (record { numbered = h.numbered; nests = λ n. refl; count = refl; len = refl }) refl
    (subst (λ (g : FirstRows). LinksBut (links_in three) g 0) (sym firsts) links3)
    (ap (λ (g : FirstRows). length g.clients) firsts) (ap (λ (g : FirstRows). length g.instances) firsts) live room

-- the link of a place, where it hangs and where it is a root
pub link_root : (place : Place) → is_some place.hangs ≡ false → link_of (Some (spot_of place)) ≡ Some (record { owner = place.owner; next = place.next; prev = place.prev })
link_root place e = go place.hangs refl
  where
    go : (x : Option Hanging) → place.hangs ≡ x → link_of (Some (spot_of place)) ≡ Some (record { owner = place.owner; next = place.next; prev = place.prev })
    go None is = rw is refl
    go (Some x) is = absurd (let y : true ≡ false = sym (ap (λ (x : Option Hanging). is_some x) is) ∙ e in cc)

pub link_hung : (place : Place) → is_some place.hangs ≡ true → link_of (Some (spot_of place)) ≡ None
link_hung place e = go place.hangs refl
  where
    go : (x : Option Hanging) → place.hangs ≡ x → link_of (Some (spot_of place)) ≡ None
    go None is = absurd (let y : false ≡ true = sym (ap (λ (x : Option Hanging). is_some x) is) ∙ e in cc)
    go (Some x) is = rw is refl

-- what is listed last is there
pub last_there : (s : Store) (o : ℕ) (numbers : List ℕ) → IsStore s → s.listing.numbers ≡ numbers ++ o ∷ [] → at s.places.spots o ≡ None → ⊥
last_there s o numbers h is none =
    let listed : has s.listing.numbers o ≡ true = ap (λ (l : List ℕ). has l o) is ∙ has_pushed numbers o o refl in
    let stays : has s.listing.numbers o ≡ false = h.listed.same o ∙ ap (λ (x : Option Spot). leaves_in (option_map nest_of x)) none in
    let x : true ≡ false = sym listed ∙ stays in
    cc

pub there_live : (s : Store) (o : ℕ) (q : Spot) → IsStore s → at s.places.spots o ≡ Some q → 0 < s.live
there_live s o q h is = let c = count_without s.places.spots o q h.numbered is in let live = h.count in omega arith

-- What is listed last has been taken out.
pub taken_root : (s : Store) (o : ℕ) (place : Place) (v : PlacesValue) (l : ListingValue) (z : Store) → IsStore s → Some (spot_of place) ≡ at s.places.spots o → is_some place.hangs ≡ false → s.listing.numbers ≡ l.numbers ++ o ∷ []
    → l.spare + length l.numbers ≡ s.listing.spare + length s.listing.numbers → v ≡ record { spots = map (unless_spot o) s.places.spots; spare = s.places.spare }
    → z ≡ without_links (record { places = v; firsts = s.firsts; listing = l; live = s.live - 1 }) place.owner place.prev place.next → TakesLast s z (Some o)
taken_root s o place v l z h is root numbers room taken now =
    let y : Store = without_links (record { places = v; firsts = s.firsts; listing = l; live = s.live - 1 }) place.owner place.prev place.next in
    let p : Link = record { owner = place.owner; next = place.next; prev = place.prev } in
    let live = there_live s o (spot_of place) h (sym is) in
    let less : (s.live - 1) + 1 ≡ s.live = omega arith in
    subst (λ (x : Store). TakesLast s x (Some o)) (sym now) (
      removed_root s y o (spot_of place) p h (sym is) (link_root place root) numbers (ap (λ (u : PlacesValue). record u { spots = apart p u.spots }) taken) refl less room,
      numbers,
    )

pub taken_hung : (s : Store) (o : ℕ) (place : Place) (v : PlacesValue) (l : ListingValue) (z : Store) → IsStore s → Some (spot_of place) ≡ at s.places.spots o → is_some place.hangs ≡ true → s.listing.numbers ≡ l.numbers ++ o ∷ []
    → l.spare + length l.numbers ≡ s.listing.spare + length s.listing.numbers → v ≡ record { spots = map (unless_spot o) s.places.spots; spare = s.places.spare }
    → z ≡ record { places = v; firsts = s.firsts; listing = l; live = s.live - 1 } → TakesLast s z (Some o)
taken_hung s o place v l z h is hung numbers room taken now =
    let y : Store = record { places = v; firsts = s.firsts; listing = l; live = s.live - 1 } in
    let live = there_live s o (spot_of place) h (sym is) in
    let less : (s.live - 1) + 1 ≡ s.live = omega arith in
    subst (λ (x : Store). TakesLast s x (Some o)) (sym now) (removed_hung s y o (spot_of place) h (sym is) (link_hung place hung) numbers taken refl less room, numbers)

-- None was listed.
empty : (xs : List ℕ) → length xs ≡ 0 → xs ≡ []
empty [] e = refl
empty (x ∷ xs) e = absurd (omega arith)

pub taken_none : (s : Store) (l : ListingValue) → s.listing.numbers ≡ l.numbers ++ [] → length s.listing.numbers ≡ 0 → l.spare + length l.numbers ≡ s.listing.spare + length s.listing.numbers → TakesLast s (record s { listing = l }) None
taken_none s l numbers none room =
    let e : l.numbers ≡ s.listing.numbers = sym (numbers ∙ append-nil l.numbers) in
    let long = ap length e in
    let spare : l.spare ≡ s.listing.spare = omega arith in (
      ap (λ (n : List ℕ). record s { listing = record { numbers = n; spare = l.spare } }) e ∙ ap (λ (k : ℕ). record s { listing = record { numbers = s.listing.numbers; spare = k } }) spare,
      empty s.listing.numbers none,
    )

-- The list is sorted.
pub sorted : (s : Store) (l : ListingValue) → IsStore s → IsPermutation s.listing.numbers l.numbers → l.spare ≡ s.listing.spare → Becomes s (record s { listing = l }) (rows_in s.places.spots)
sorted s l h same spare =
    let long = length_permutation s.listing.numbers l.numbers same in
    let room = h.room in
    record {
      store = record {
        numbered = h.numbered;
        links = h.links;
        nested = h.nested;
        listed = record {
          same = λ n. sym (list_any-IsPermutation (λ x. x == n) s.listing.numbers l.numbers same) ∙ h.listed.same n;
          once = distinct_sorted s.listing.numbers l.numbers same h.listed.once;
        };
        count = h.count;
        room = omega arith;
      };
      seen = refl;
      spare = refl;
      clients = refl;
      instances = refl;
      fewer = omega arith;
      room = omega arith;
    }

-- The numbers that leave rise, and are those that are listed.
pub rows_numbered : (spots : Spots) → Numbered spots → IsNumbered (rows_in spots)
rows_numbered spots numbered o r is = let p = spot_at spots o r is in ap (λ (x : HeapRow). x.object.number) p.row ∙ numbered o p.spot p.is

leaving_one : (r : HeapRow) (rows : HeapRows) → r.leaves ≡ true → leaving_in (Some r ∷ rows) ≡ r.object.number ∷ leaving_in rows
leaving_one r rows e = rw e refl

leaving_none : (r : HeapRow) (rows : HeapRows) → r.leaves ≡ false → leaving_in (Some r ∷ rows) ≡ leaving_in rows
leaving_none r rows e = rw e refl

pub leaving_rises : (n : ℕ) (rows : HeapRows) → NumberedBehind n rows → Rises n (leaving_in rows)
leaving_rises n [] numbered = tt
leaving_rises n (None ∷ rows) numbered = rises_down n (suc n) (leaving_in rows) (omega arith) (leaving_rises (suc n) rows (numbered_tail n None rows numbered))
leaving_rises n (Some r ∷ rows) numbered =
    let deeper = leaving_rises (suc n) rows (numbered_tail n (Some r) rows numbered) in
    let is = numbered_head n r rows numbered in
    elim (cases_Bool r.leaves) [
      | inl e ↦ subst (λ (l : List ℕ). Rises n l) (sym (leaving_one r rows e)) (omega arith, subst (λ (m : ℕ). Rises m (leaving_in rows)) (sym is) deeper)
      | inr e ↦ subst (λ (l : List ℕ). Rises n l) (sym (leaving_none r rows e)) (rises_down n (suc n) (leaving_in rows) (omega arith) deeper)
    ]

pub leaving_has : (n j : ℕ) (rows : HeapRows) → NumberedBehind n rows → has (leaving_in rows) (suc (n + j)) ≡ option_map_or (λ r. r.leaves) (slice_index_or rows j None) false
leaving_has n j [] numbered = refl
leaving_has n zero (None ∷ rows) numbered = none_at_or_below (suc n) (leaving_in rows) (leaving_rises (suc n) rows (numbered_tail n None rows numbered)) (suc (n + zero)) (omega arith)
leaving_has n (suc j) (None ∷ rows) numbered =
    let e : suc (n + suc j) ≡ suc (suc n + j) = omega arith in
    ap (has (leaving_in rows)) e ∙ leaving_has (suc n) j rows (numbered_tail n None rows numbered)
leaving_has n zero (Some r ∷ rows) numbered =
    let is = numbered_head n r rows numbered in
    elim (cases_Bool r.leaves) [
      | inl e ↦ ap (λ (l : List ℕ). has l (suc (n + zero))) (leaving_one r rows e) ∙ (has_head r.object.number (leaving_in rows) (suc (n + zero)) (omega arith) ∙ sym e)
      | inr e ↦ ap (λ (l : List ℕ). has l (suc (n + zero))) (leaving_none r rows e) ∙ (none_at_or_below (suc n) (leaving_in rows) (leaving_rises (suc n) rows (numbered_tail n (Some r) rows numbered)) (suc (n + zero)) (omega arith) ∙ sym e)
    ]
leaving_has n (suc j) (Some r ∷ rows) numbered =
    let is = numbered_head n r rows numbered in
    let e' : suc (n + suc j) ≡ suc (suc n + j) = omega arith in
    let deeper = ap (has (leaving_in rows)) e' ∙ leaving_has (suc n) j rows (numbered_tail n (Some r) rows numbered) in
    elim (cases_Bool r.leaves) [
      | inl e ↦ ap (λ (l : List ℕ). has l (suc (n + suc j))) (leaving_one r rows e) ∙ (has_behind r.object.number (leaving_in rows) (suc (n + suc j)) (λ x. omega arith) ∙ deeper)
      | inr e ↦ ap (λ (l : List ℕ). has l (suc (n + suc j))) (leaving_none r rows e) ∙ deeper
    ]

pub store_leaving_rises : (s : Store) → IsStore s → Rises 0 (leaving_in (rows_in s.places.spots))
store_leaving_rises s h = leaving_rises 0 (rows_in s.places.spots) (numbered_behind (rows_in s.places.spots) (rows_numbered s.places.spots h.numbered))

pub leaving_members : (s : Store) → IsStore s → (k : ℕ) → has (leaving_in (rows_in s.places.spots)) k ≡ has s.listing.numbers k
leaving_members s h zero = none_at_or_below 0 (leaving_in (rows_in s.places.spots)) (store_leaving_rises s h) 0 (omega arith) ∙ sym (h.listed.same 0)
leaving_members s h (suc j) =
    let rows : HeapRows = rows_in s.places.spots in
    let e : suc j ≡ suc (0 + j) = omega arith in
    ap (has (leaving_in rows)) e ∙ (leaving_has 0 j rows (numbered_behind rows (rows_numbered s.places.spots h.numbered)) ∙ (leaves_seen s.places.spots (suc j) ∙ sym (h.listed.same (suc j))))

-- The first that leaves is the one that is taken out.
pub leaving_step : (s z : Store) (o : ℕ) → IsStore s → IsStore z → Falls s.listing.numbers → s.listing.numbers ≡ z.listing.numbers ++ o ∷ []
    → leaving_in (rows_in s.places.spots) ≡ o ∷ leaving_in (rows_in z.places.spots)
leaving_step s z o h k falls numbers =
    let old : List ℕ = leaving_in (rows_in s.places.spots) in
    let new : List ℕ = leaving_in (rows_in z.places.spots) in
    let left : List ℕ = z.listing.numbers in
    let f : Falls (left ++ o ∷ []) = subst Falls numbers falls in
    let d = distinct_before o left (subst Distinct numbers h.listed.once) in
    let listed : has s.listing.numbers o ≡ true = ap (λ (l : List ℕ). has l o) numbers ∙ has_pushed left o o refl in
    let pos : 0 < o = rises_above 0 old (store_leaving_rises s h) o (leaving_members s h o ∙ listed) in
    let above : (n : ℕ) → has new n ≡ true → o < n = λ n there. (
    let still : has left n ≡ true = sym (leaving_members z k n) ∙ there in
    let le = falls_last o left f n still in
    let ne : o ≡ n → ⊥ = λ e. (let x : true ≡ false = sym still ∙ (ap (has left) (sym e) ∙ d.1) in cc) in
    elim (cases_eq o n) [
      | inl e ↦ absurd (ne e)
      | inr apart ↦ omega arith
    ]) in
    same_rising 0 0 old (o ∷ new) (store_leaving_rises s h) (pos, rises_from 0 o new (store_leaving_rises z k) above) (λ n. leaving_members s h n ∙ (ap (λ (l : List ℕ). has l n) numbers ∙ elim (cases_eq o n) [
      | inl e ↦ has_pushed left o n e ∙ sym (has_head o new n e)
      | inr ne ↦ has_unpushed left o n ne ∙ (sym (leaving_members z k n) ∙ sym (has_behind o new n ne))
    ]))

pub none_left : (s : Store) → IsStore s → s.listing.numbers ≡ [] → leaving_in (rows_in s.places.spots) ≡ []
none_left s h numbers = same_rising 0 0 (leaving_in (rows_in s.places.spots)) [] (store_leaving_rises s h) tt (λ n. leaving_members s h n ∙ ap (λ (l : List ℕ). has l n) numbers)

-- the rows behind a sweep, where one that leaves is gone already, and where none leaves
abbrev Leaves : ℕ → HeapRows → Type 0
Leaves o rows = (j : ℕ) (r : HeapRow) → slice_index_or rows j None ≡ Some r → (r.object.number == o) ≡ true → r.leaves ≡ true

swept_unless : (o : ℕ) (rows : HeapRows) → Leaves o rows → swept_rows (map (unless o) rows) ≡ swept_rows rows
swept_unless o [] leaves = refl
swept_unless o (None ∷ rows) leaves = ap (λ (l : HeapRows). None ∷ l) (swept_unless o rows (λ j r is. leaves (suc j) r is))
swept_unless o (Some r ∷ rows) leaves =
    let deeper = swept_unless o rows (λ j r is. leaves (suc j) r is) in
    elim (cases_Bool (r.object.number == o)) [
      | inl e ↦ rw (e, leaves 0 r refl e, deeper) refl
      | inr e ↦ rw (e, deeper) refl
    ]

pub swept_step : (s : Store) (o : ℕ) → IsStore s → has s.listing.numbers o ≡ true → swept_rows (map (unless o) (rows_in s.places.spots)) ≡ swept_rows (rows_in s.places.spots)
swept_step s o h listed = swept_unless o (rows_in s.places.spots) (λ j r is same. (
    let rows : HeapRows = rows_in s.places.spots in
    let at_o : suc j ≡ o = sym (rows_numbered s.places.spots h.numbered (suc j) r is) ∙ eqb-true r.object.number o same in
    sym (ap (λ (x : Option HeapRow). option_map_or (λ r. r.leaves) x false) is) ∙ (ap (leaves_at rows) at_o ∙ (leaves_seen s.places.spots o ∙ (sym (h.listed.same o) ∙ listed)))))

swept_stay : (rows : HeapRows) → Stay rows → swept_rows rows ≡ rows
swept_stay [] stay = refl
swept_stay (None ∷ rows) stay = ap (λ (l : HeapRows). None ∷ l) (swept_stay rows (λ j r is. stay (suc j) r is))
swept_stay (Some r ∷ rows) stay = rw (stay 0 r refl, swept_stay rows (λ j r is. stay (suc j) r is)) refl

-- a store in the middle of a sweep
pub record Sweeps (s z : Store) : Type 0 where
  pub becomes : Becomes s z (rows_in z.places.spots)
  pub falls : Falls z.listing.numbers
  pub swept : swept_rows (rows_in z.places.spots) ≡ swept_rows (rows_in s.places.spots)

as_seen : (s z : Store) (rows : HeapRows) → Becomes s z rows → Becomes s z (rows_in z.places.spots)
as_seen s z rows b = subst (λ (r : HeapRows). Becomes s z r) (sym b.seen) b

pub sweep_begins : (s : Store) (l : ListingValue) → IsStore s → IsPermutation s.listing.numbers l.numbers → l.spare ≡ s.listing.spare → Falls l.numbers → Sweeps s (record s { listing = l })
sweep_begins s l h same spare falls = record { becomes = sorted s l h same spare; falls = falls; swept = refl }

pub sweep_goes_on : (s z y : Store) (o : ℕ) → Sweeps s z → TakesLast z y (Some o) → Sweeps s y
sweep_goes_on s z y o w t =
    let b = t.0 in
    let listed : has z.listing.numbers o ≡ true = ap (λ (l : List ℕ). has l o) t.1 ∙ has_pushed y.listing.numbers o o refl in
    record {
      becomes = becomes_then s z y (rows_in z.places.spots) (rows_in y.places.spots) w.becomes (as_seen z y _ b);
      falls = falls_before o y.listing.numbers (subst Falls t.1 w.falls);
      swept = ap swept_rows b.seen ∙ (swept_step z o w.becomes.store listed ∙ w.swept);
    }

pub sweep_frees : (s z y : Store) (o : ℕ) → Sweeps s z → TakesLast z y (Some o) → leaving_in (rows_in z.places.spots) ≡ o ∷ leaving_in (rows_in y.places.spots)
sweep_frees s z y o w t = leaving_step z y o w.becomes.store t.0.store w.falls t.1

pub sweep_ends : (s z y : Store) → Sweeps s z → TakesLast z y None → Becomes s y (swept_rows (rows_in s.places.spots))
sweep_ends s z y w t =
    let none = none_left z w.becomes.store t.1 in
    let e : rows_in z.places.spots ≡ swept_rows (rows_in s.places.spots) = sym (swept_stay (rows_in z.places.spots) (none_leaves (rows_in z.places.spots) none)) ∙ w.swept in
    subst (λ (x : Store). Becomes s x (swept_rows (rows_in s.places.spots))) (sym t.0) (subst (λ (r : HeapRows). Becomes s z r) e w.becomes)

pub sweep_leaves_none : (s z y : Store) → Sweeps s z → TakesLast z y None → leaving_in (rows_in z.places.spots) ≡ []
sweep_leaves_none s z y w t = none_left z w.becomes.store t.1

pub sweep_shrinks : (z y : Store) (o : ℕ) → TakesLast z y (Some o) → length y.listing.numbers < length z.listing.numbers
sweep_shrinks z y o t =
    let all : length z.listing.numbers ≡ length (y.listing.numbers ++ o ∷ []) = ap length t.1 in
    let one : length (y.listing.numbers ++ o ∷ []) ≡ length y.listing.numbers + 1 = length-append y.listing.numbers (o ∷ []) in
    omega arith

pub sweep_frees_one : (s z y : Store) (o : ℕ) → Sweeps s z → TakesLast z y (Some o) → length (leaving_in (rows_in z.places.spots)) ≡ length (leaving_in (rows_in y.places.spots)) + 1
sweep_frees_one s z y o w t =
    let n : length (leaving_in (rows_in z.places.spots)) ≡ suc (length (leaving_in (rows_in y.places.spots))) = ap length (sweep_frees s z y o w t) in
    omega arith

-- What is logged, with what still leaves, is the same before and behind each that is freed.
pub freed_one : (log later all : List Entry) (o : ℕ) (now left : List ℕ) → log ++ map entry.Free now ≡ all → now ≡ o ∷ left → later ≡ log ++ entry.Free o ∷ [] → later ++ map entry.Free left ≡ all
freed_one log later all o now left before first logged =
    ap (λ (l : List Entry). l ++ map entry.Free left) logged
    ∙ (append_assoc log (entry.Free o ∷ []) (map entry.Free left) ∙ (ap (λ (n : List ℕ). log ++ map entry.Free n) (sym first) ∙ before))

pub freed_all : (log all : List Entry) (now : List ℕ) → log ++ map entry.Free now ≡ all → now ≡ [] → log ≡ all
freed_all log all now before none = sym (ap (λ (n : List ℕ). log ++ map entry.Free n) none ∙ append-nil log) ∙ before
