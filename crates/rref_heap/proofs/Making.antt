-- A store in which an object has been made.
use Rattle.std.proofs.Common.{◌≡◌, ℕ, zero, suc, ◌+◌, ◌<◌, ◌++◌, List, [], ◌∷◌, length, map, replicate, Option, Some, None, refl, sym, ap, ◌∙◌, subst, arith, inl, inr, length-append}
use Rattle.std.specs.Prelude.{slice_index_or}
use Rattle.std.specs.Option.{option_map}
use Rattle.std.proofs.lemmas.Bool.{cases_eq, cases_lt}
use Rattle.std.proofs.lemmas.List.{get_or_past, get_or_append_left, map-append}
use Rattle.std.proofs.Math.Seq.{get_or-append_seam}
use Rattle.machine_defs.specs.declared.values.Owner.{Owner}
use Rattle.machine_defs.specs.Arguments.{has}
use Rattle.rref_heap.specs.HeapValue.{heap_objects}
use Rattle.rref_heap.specs.Spots.{Spot, Spots, at, Numbered, on_spot, rows_in, to_prev}
use Rattle.rref_heap.specs.Links.{FirstRows, first_in, HasFirst, with_first, LinksBut, link_of, links_in}
use Rattle.rref_heap.specs.declared.store.Store.{Store}
use Rattle.rref_heap.specs.Store.{Nest, nest_of, nests_in, leaves_in, IsNested, IsListing, IsStore, Makes, new_spot}
use Rattle.rref_heap.proofs.Spots.{same_some, unequal, past_all, numbered_append}
use Rattle.rref_heap.proofs.Links.{if_link, before, joined, out_came}
use Rattle.rref_heap.proofs.Quiet.{rows_same, same_nested, same_listing}
use Rattle.rref_heap.proofs.Passing.{links_prev, quiet_prev, with_prev, widths_set}

pub at_more : (spots : Spots) (p : Spot) (n : ℕ) → (n ≡ length spots + 1 → ⊥) → at (spots ++ Some p ∷ []) n ≡ at spots n
at_more spots p zero ne = refl
at_more spots p (suc k) ne = elim (cases_lt k (length spots)) [
  | inl lt ↦ get_or_append_left spots (Some p ∷ []) None k lt
  | inr le ↦ (let l = length-append spots (Some p ∷ []) in get_or_past (spots ++ Some p ∷ []) k None (omega arith) ∙ sym (get_or_past spots k None le))
]

pub at_new : (spots : Spots) (p : Spot) (n : ℕ) → n ≡ length spots + 1 → at (spots ++ Some p ∷ []) n ≡ Some p
at_new spots p zero e = absurd (omega arith)
at_new spots p (suc k) e = let l : k ≡ length spots = omega arith in subst (λ (j : ℕ). slice_index_or (spots ++ Some p ∷ []) j None ≡ Some p) (sym l) (get_or-append_seam spots (Some p) [] None)

abbrev pub zeros : ℕ → List ℕ
zeros k = replicate k 0

pub zeros_are : (k place : ℕ) → slice_index_or (zeros k) place 0 ≡ 0
zeros_are zero place = refl
zeros_are (suc k) zero = refl
zeros_are (suc k) (suc place) = zeros_are k place

module _ (N M : ℕ → Option Nest) (top n : ℕ) (p : Nest) (h : IsNested N top) (last : n ≡ top + 1) (absent : N n ≡ None) (here : M n ≡ Some p) (others : (k : ℕ) → (k ≡ n → ⊥) → M k ≡ N k) (root : p.hung ≡ None) (empty : (place : ℕ) → slice_index_or p.below place 0 ≡ 0) (wide : 0 < length p.below → length p.below ≡ p.width) where
  mine : (k : ℕ) (q : Nest) → k ≡ n → M k ≡ Some q → q ≡ p
  mine k q e is = same_some (sym is ∙ (ap M e ∙ here))

  pub came_nested : IsNested M (top + 1)
  came_nested = record {
    hangs = λ k q c is hung. elim (cases_eq k n) [
      | inl e ↦ absurd (let y : None ≡ Some c = sym (ap (λ (x : Nest). x.hung) (mine k q e is) ∙ root) ∙ hung in cc)
      | inr ne ↦ (
          let was : N k ≡ Some q = sym (others k ne) ∙ is in
          let x = h.hangs k q c was hung in
          let low = h.parents k q c was hung in
          let apart : c.parent ≡ n → ⊥ = λ e. omega arith in
          record {
            low = x.low;
            in_parent = λ r at_r. x.in_parent r (sym (others c.parent apart) ∙ at_r);
            alone = λ none. x.alone (sym (others c.parent apart) ∙ none);
          })
    ];
    holds = λ k place v q is cell pos. elim (cases_eq k n) [
      | inl e ↦ absurd (let y : v ≡ 0 = sym cell ∙ (ap (λ (x : Nest). slice_index_or x.below place 0) (mine k q e is) ∙ empty place) in omega arith)
      | inr ne ↦ (
          let was : N k ≡ Some q = sym (others k ne) ∙ is in
          let x = h.holds k place v q was cell pos in
          let low = h.past k place v q was cell in
          let apart : v ≡ n → ⊥ = λ e. omega arith in
          record {
            there = λ r at_r. x.there r (sym (others v apart) ∙ at_r);
            gone = λ none. x.gone (sym (others v apart) ∙ none);
          })
    ];
    wide = λ k q is pos. elim (cases_eq k n) [
      | inl e ↦ (let same = mine k q e is in ap (λ (x : Nest). length x.below) same ∙ (wide (subst (λ (x : Nest). 0 < length x.below) same pos) ∙ sym (ap (λ (x : Nest). x.width) same)))
      | inr ne ↦ h.wide k q (sym (others k ne) ∙ is) pos
    ];
    parents = λ k q c is hung. elim (cases_eq k n) [
      | inl e ↦ absurd (let y : None ≡ Some c = sym (ap (λ (x : Nest). x.hung) (mine k q e is) ∙ root) ∙ hung in cc)
      | inr ne ↦ (let x = h.parents k q c (sym (others k ne) ∙ is) hung in omega arith)
    ];
    past = λ k place v q is cell. elim (cases_eq k n) [
      | inl e ↦ (let y : v ≡ 0 = sym cell ∙ (ap (λ (x : Nest). slice_index_or x.below place 0) (mine k q e is) ∙ empty place) in omega arith)
      | inr ne ↦ (let x = h.past k place v q (sym (others k ne) ∙ is) cell in omega arith)
    ];
    alone = λ k u q r c is is' a b. elim (cases_eq k n) [
      | inl e ↦ absurd (let y : None ≡ Some c = sym (ap (λ (x : Nest). x.hung) (mine k q e is) ∙ root) ∙ a in cc)
      | inr ne ↦ elim (cases_eq u n) [
        | inl e ↦ absurd (let y : None ≡ Some c = sym (ap (λ (x : Nest). x.hung) (mine u r e is') ∙ root) ∙ b in cc)
        | inr ne' ↦ h.alone k u q r c (sym (others k ne) ∙ is) (sym (others u ne') ∙ is') a b
      ]
    ];
  }

count_more : (spots : Spots) (p : Spot) → length (heap_objects (rows_in (spots ++ Some p ∷ []))) ≡ suc (length (heap_objects (rows_in spots)))
count_more [] p = refl
count_more (None ∷ xs) p = count_more xs p
count_more (Some q ∷ xs) p = ap (λ n. suc n) (count_more xs p)

pub made : (s z : Store) (n ty : ℕ) (w : Owner) (cells below : List ℕ) → IsStore s → n ≡ length s.places.spots + 1 → HasFirst s.firsts w → s.live < length s.listing.numbers + s.listing.spare
    → below ≡ replicate (length below) 0 → (0 < length below → length below ≡ length cells)
    → z.places.spots ≡ map (on_spot (first_in s.firsts w) (to_prev n)) (s.places.spots ++ Some (new_spot n ty w cells below (first_in s.firsts w)) ∷ []) → z.firsts ≡ with_first s.firsts w n → z.listing ≡ s.listing → z.live ≡ s.live + 1
    → Makes s z w (new_spot n ty w cells below (first_in s.firsts w))
made s z n ty w cells below h number has room empty wide spots firsts listing live =
    let m : ℕ = first_in s.firsts w in
    let p : Spot = new_spot n ty w cells below m in
    let old : Spots = s.places.spots in
    let more : Spots = old ++ Some p ∷ [] in
    let l = length-append old (Some p ∷ []) in
    let numbered : Numbered more = numbered_append old p h.numbered number in
    let absent : at old n ≡ None = past_all old n (omega arith) in
    let off : n ≡ m → ⊥ = λ e. elim (cases_eq m 0) [
      | inl none ↦ omega arith
      | inr pos ↦ (let x = h.links.heads w (omega arith) in let y : None ≡ Some x.link = sym (ap link_of absent) ∙ (ap (links_in old) e ∙ x.is) in cc)
    ] in
    let l0 : LinksBut (links_in old) s.firsts n = out_came (links_in old) (links_in old) s.firsts n (omega arith) (ap link_of absent) (λ k ne. refl) h.links in
    let here : links_in (map (on_spot m (to_prev n)) more) n ≡ Some (record { owner = w; next = m; prev = 0 }) = links_prev m n more numbered n ∙ (ap (λ (x : Option Spot). if_link (with_prev m n n) (link_of x)) (at_new old p n number) ∙ (rw (unequal n m off) refl)) in
    let each : (k : ℕ) → (k ≡ n → ⊥) → links_in (map (on_spot m (to_prev n)) more) k ≡ if_link (before n m k) (links_in old k) = λ k ne. links_prev m n more numbered k ∙ ap (λ (x : Option Spot). if_link (before n m k) (link_of x)) (at_more old p k (λ e. ne (e ∙ sym number))) in
    let links : LinksBut (links_in (map (on_spot m (to_prev n)) more)) (with_first s.firsts w n) 0 = joined (links_in old) (links_in (map (on_spot m (to_prev n)) more)) s.firsts n w l0 has (omega arith) here each in
    let q = quiet_prev m n more numbered in
    let nested1 : IsNested (nests_in more) (length old + 1) = came_nested (nests_in old) (nests_in more) (length old) n (nest_of p) h.nested number (ap (λ (x : Option Spot). option_map nest_of x) absent) (ap (λ (x : Option Spot). option_map nest_of x) (at_new old p n number)) (λ k ne. ap (λ (x : Option Spot). option_map nest_of x) (at_more old p k (λ e. ne (e ∙ sym number)))) refl (λ place. ap (λ (x : List ℕ). slice_index_or x place 0) empty ∙ zeros_are (length below) place) wide in
    let nested2 : IsNested (nests_in (map (on_spot m (to_prev n)) more)) (length (map (on_spot m (to_prev n)) more)) = same_nested (nests_in more) _ (length old + 1) _ q.nests (let k = q.len in omega arith) nested1 in
    let list1 : IsListing (nests_in more) s.listing.numbers = record {
      same = λ k. h.listed.same k ∙ elim (cases_eq k n) [
        | inl e ↦ (rw (e, absent, at_new old p n number) refl)
        | inr ne ↦ ap (λ (x : Option Spot). leaves_in (option_map nest_of x)) (sym (at_more old p k (λ e. ne (e ∙ sym number))))
      ];
      once = h.listed.once;
    } in
    let list2 = same_listing (nests_in more) (nests_in (map (on_spot m (to_prev n)) more)) s.listing.numbers q.nests list1 in
    let count : length (heap_objects (rows_in (map (on_spot m (to_prev n)) more))) ≡ suc (length (heap_objects (rows_in old))) = q.count ∙ count_more old p in
    let w2 = widths_set s.firsts w n in
    let old_count = h.count in
    let count' : length (heap_objects (rows_in z.places.spots)) ≡ suc (length (heap_objects (rows_in old))) = ap (λ (y : Spots). length (heap_objects (rows_in y))) spots ∙ count in
    let rooms : length z.listing.numbers + z.listing.spare ≡ length s.listing.numbers + s.listing.spare = ap (λ x. length x.numbers + x.spare) listing in
    record {
      store = record {
        numbered = subst Numbered (sym spots) q.numbered;
        links = subst (λ (y : Spots). LinksBut (links_in y) z.firsts 0) (sym spots) (subst (λ (f : FirstRows). LinksBut (links_in (map (on_spot m (to_prev n)) more)) f 0) (sym firsts) links);
        nested = subst (λ (y : Spots). IsNested (nests_in y) (length y)) (sym spots) nested2;
        listed = subst (λ (y : Spots). IsListing (nests_in y) z.listing.numbers) (sym spots) (subst (λ x. IsListing (nests_in (map (on_spot m (to_prev n)) more)) x.numbers) (sym listing) list2);
        count = omega arith;
        room = omega arith;
      };
      seen = ap rows_in spots ∙ (rows_same m (to_prev n) more (λ y. refl) ∙ map-append _ old (Some p ∷ []));
      clients = ap (λ (f : FirstRows). length f.clients) firsts ∙ w2.clients;
      instances = ap (λ (f : FirstRows). length f.instances) firsts ∙ w2.instances;
    }
