-- The list for the sweep: what is listed, once, and that there is room for it.
use Rattle.std.proofs.Common.{◌≡◌, ℕ, zero, suc, ◌+◌, ◌-◌, ◌<◌, ◌≤◌, ◌==◌, ◌||◌, ◌++◌, Bool, true, false, not, List, [], ◌∷◌, length, map, Option, Some, None, refl, sym, ap, ◌∙◌, subst, arith, inl, inr, length-append}
use Rattle.std.specs.Prelude.{slice_set, slice_index_or, is_some}
use Rattle.std.specs.Option.{option_map}
use Rattle.std.proofs.lemmas.Bool.{cases_eq, eq-eqb, eqb-true}
use Rattle.std.proofs.lemmas.List.{length-map}
use Rattle.machine_defs.specs.Arguments.{has}
use Rattle.rref_heap.specs.HeapValue.{heap_objects}
use Rattle.rref_heap.specs.Spots.{Spot, Spots, PlacesValue, at, Numbered, on_spot, rows_in, to_leave, stays_in}
use Rattle.rref_heap.specs.declared.store.Store.{Store}
use Rattle.rref_heap.specs.Store.{nest_of, nests_in, leaves_in, Listable, Lists, Distinct}
use Rattle.rref_heap.proofs.Spots.{unequal, same_spots, at_map, at_on, here_on, at_put_other}
use Rattle.rref_heap.proofs.Quiet.{count_on, numbered_on}

abbrev pub count : Spots → ℕ
count spots = length (heap_objects (rows_in spots))

pub count_gone : (spots : Spots) (k : ℕ) (p : Spot) → slice_index_or spots k None ≡ Some p → count spots ≡ suc (count (slice_set spots k None))
count_gone [] k p is = absurd cc
count_gone (None ∷ xs) zero p is = absurd cc
count_gone (Some q ∷ xs) zero p is = refl
count_gone (None ∷ xs) (suc k) p is = count_gone xs k p is
count_gone (Some q ∷ xs) (suc k) p is = ap (λ n. suc n) (count_gone xs k p is)

or_true : (b : Bool) → (b || true) ≡ true
or_true true = refl
or_true false = refl

or_false : (b : Bool) → (b || false) ≡ b
or_false true = refl
or_false false = refl

has_case : (x : ℕ) (xs : List ℕ) (o n : ℕ) (b : Bool) → (x == n) ≡ b → has (xs ++ o ∷ []) n ≡ (has xs n || (o == n)) → has ((x ∷ xs) ++ o ∷ []) n ≡ (has (x ∷ xs) n || (o == n))
has_case x xs o n true e ih = rw e refl
has_case x xs o n false e ih = rw e ih

pub has_push : (xs : List ℕ) (o n : ℕ) → has (xs ++ o ∷ []) n ≡ (has xs n || (o == n))
has_push [] o n = or_false (o == n)
has_push (x ∷ xs) o n = has_case x xs o n (x == n) refl (has_push xs o n)

-- one that isn't in a list is none of its items
pub not_head : (x : ℕ) (xs : List ℕ) (n : ℕ) → has (x ∷ xs) n ≡ false → (x ≡ n → ⊥) × (has xs n ≡ false)
not_head x xs n out = by (x == n) refl
  where
    by : (b : Bool) → (x == n) ≡ b → (x ≡ n → ⊥) × (has xs n ≡ false)
    by true e = absurd (let y : true ≡ false = sym (rw e refl) ∙ out in cc)
    by false e = ((λ same. (let y : true ≡ false = sym (eq-eqb x n same) ∙ e in cc)), (rw e at out))

pub in_tail : (x : ℕ) (xs : List ℕ) (n : ℕ) → has xs n ≡ true → has (x ∷ xs) n ≡ true
in_tail x xs n h = by (x == n) refl
  where
    by : (b : Bool) → (x == n) ≡ b → has (x ∷ xs) n ≡ true
    by true e = rw e refl
    by false e = rw e h

pub in_head : (x : ℕ) (xs : List ℕ) → has (x ∷ xs) x ≡ true
in_head x xs = rw (eq-eqb x x refl) refl

pub distinct_push : (xs : List ℕ) (o : ℕ) → has xs o ≡ false → Distinct xs → Distinct (xs ++ o ∷ [])
distinct_push [] o out d = (refl, d)
distinct_push (x ∷ xs) o out d =
    let r = not_head x xs o out in
    (has_push xs o x ∙ (rw (d.0, unequal o x (λ e. r.0 (sym e))) refl), distinct_push xs o r.1 d.1)

fits_more : (spots : Spots) (x : ℕ) (xs : List ℕ) → Distinct (x ∷ xs) → ((n : ℕ) → has (x ∷ xs) n ≡ true → is_some (at spots n) ≡ true)
    → ((m : ℕ) → ((n : ℕ) → has xs n ≡ true → is_some (at (slice_set spots m None) n) ≡ true) → length xs ≤ count (slice_set spots m None))
    → (y : ℕ) → x ≡ y → (z : Option Spot) → at spots x ≡ z → length (x ∷ xs) ≤ count spots
fits_more spots x xs d there ih y e None is = absurd (let h : is_some (at spots x) ≡ true = there x (in_head x xs) in let k : false ≡ true = sym (ap (λ (u : Option Spot). is_some u) is) ∙ h in cc)
fits_more spots x xs d there ih zero e (Some p) is = absurd (let k : None ≡ Some p = ap (at spots) (sym e) ∙ is in cc)
fits_more spots x xs d there ih (suc m) e (Some p) is =
    let at_m : slice_index_or spots m None ≡ Some p = ap (at spots) (sym e) ∙ is in
    let less = count_gone spots m p at_m in
    let rest = ih m (λ n h. (
    let ne : n ≡ x → ⊥ = λ same. (let k : true ≡ false = sym h ∙ (ap (has xs) same ∙ d.0) in cc) in
    let ne' : n ≡ suc m → ⊥ = λ same. ne (same ∙ sym e) in
    let j : suc m - 1 ≡ m = omega arith in
    let other : at (slice_set spots m None) n ≡ at spots n = subst (λ (i : ℕ). at (slice_set spots i None) n ≡ at spots n) j (at_put_other spots (suc m) n None (omega arith) ne') in
    ap (λ (u : Option Spot). is_some u) other ∙ there n (in_tail x xs n h))) in
    omega arith

-- so many objects as a list names are there
pub fits : (spots : Spots) (xs : List ℕ) → Distinct xs → ((n : ℕ) → has xs n ≡ true → is_some (at spots n) ≡ true) → length xs ≤ count spots
fits spots [] d there = omega arith
fits spots (x ∷ xs) d there = fits_more spots x xs d there (λ m still. fits (slice_set spots m None) xs d.1 still) x refl (at spots x) refl

pub leaver_there : (x : Option Spot) → leaves_in (option_map nest_of x) ≡ true → is_some x ≡ true
leaver_there None e = absurd cc
leaver_there (Some p) e = refl

stays_not : (x : Option Spot) → stays_in x ≡ true → (leaves_in (option_map nest_of x) ≡ false) × (is_some x ≡ true)
stays_not None e = absurd cc
stays_not (Some p) e = (by p.leaves e, refl)
  where
    by : (b : Bool) → not b ≡ true → b ≡ false
    by true e = absurd cc
    by false e = refl

-- there is room for one that stays
pub room_for : (s : Store) (o : ℕ) → Listable s → stays_in (at s.places.spots o) ≡ true → 0 < s.listing.spare
room_for s o h stays =
    let a = stays_not (at s.places.spots o) stays in
    let out : has s.listing.numbers o ≡ false = h.listed.same o ∙ a.0 in
    let f = fits s.places.spots (o ∷ s.listing.numbers) (out, h.listed.once) (λ n k. by n k (o == n) refl a.1) in
    let r = h.room in
    omega arith
  where
    by : (n : ℕ) → has (o ∷ s.listing.numbers) n ≡ true → (b : Bool) → (o == n) ≡ b → is_some (at s.places.spots o) ≡ true → is_some (at s.places.spots n) ≡ true
    by n k true e there = ap (λ (m : ℕ). is_some (at s.places.spots m)) (sym (eqb-true o n e)) ∙ there
    by n k false e there = leaver_there (at s.places.spots n) (sym (h.listed.same n) ∙ (rw e at k))

some_spot : (x : Option Spot) → is_some x ≡ true → (p : Spot) × (x ≡ Some p)
some_spot None e = absurd cc
some_spot (Some p) e = (p, refl)

-- one more is listed
pub listed_one : (s z : Store) (o : ℕ) → Listable s → stays_in (at s.places.spots o) ≡ true → z.places ≡ record { spots = map (on_spot o to_leave) s.places.spots; spare = s.places.spare } → z.firsts ≡ s.firsts → z.live ≡ s.live
    → z.listing.numbers ≡ s.listing.numbers ++ o ∷ [] → z.listing.spare + 1 ≡ s.listing.spare → Lists s z (map (on_spot o to_leave) s.places.spots)
listed_one s z o h stays places firsts live numbers spare =
    let a = stays_not (at s.places.spots o) stays in
    let out : has s.listing.numbers o ≡ false = h.listed.same o ∙ a.0 in
    let p = some_spot (at s.places.spots o) a.1 in
    let spots : z.places.spots ≡ map (on_spot o to_leave) s.places.spots = ap (λ (v : PlacesValue). v.spots) places in
    let n1 : length z.listing.numbers ≡ length s.listing.numbers + 1 = ap length numbers ∙ length-append s.listing.numbers (o ∷ []) in
    let c1 : count z.places.spots ≡ count s.places.spots = ap count spots ∙ count_on o to_leave s.places.spots in
    let r = h.room in
    let same : (n : ℕ) → has (s.listing.numbers ++ o ∷ []) n ≡ leaves_in (nests_in (map (on_spot o to_leave) s.places.spots) n) = λ n. has_push s.listing.numbers o n ∙ elim (cases_eq n o) [
      | inl e ↦ (
          let here : at (map (on_spot o to_leave) s.places.spots) n ≡ Some (to_leave p.0) = ap (at (map (on_spot o to_leave) s.places.spots)) e ∙ (at_map (on_spot o to_leave) refl s.places.spots o ∙ here_on o to_leave s.places.spots h.numbered p.0 p.1) in
          rw (eq-eqb o n (sym e)) (or_true (has s.listing.numbers n) ∙ sym (ap (λ (x : Option Spot). leaves_in (option_map nest_of x)) here)))
      | inr ne ↦ (
          let there : at (map (on_spot o to_leave) s.places.spots) n ≡ at s.places.spots n = at_map (on_spot o to_leave) refl s.places.spots n ∙ at_on o to_leave s.places.spots h.numbered n ne in
          rw (unequal o n (λ e. ne (sym e))) (or_false (has s.listing.numbers n) ∙ (h.listed.same n ∙ sym (ap (λ (x : Option Spot). leaves_in (option_map nest_of x)) there))))
    ] in
    record {
      places = places;
      firsts = firsts;
      live = live;
      listable = record {
        numbered = subst Numbered (sym spots) (numbered_on o to_leave s.places.spots h.numbered (λ q. refl));
        listed = record {
          same = λ n. subst (λ (l : List ℕ). has l n ≡ leaves_in (nests_in z.places.spots n)) (sym numbers) (subst (λ (y : Spots). has (s.listing.numbers ++ o ∷ []) n ≡ leaves_in (nests_in y n)) (sym spots) (same n));
          once = subst Distinct (sym numbers) (distinct_push s.listing.numbers o out h.listed.once);
        };
        room = omega arith;
      };
      same = omega arith;
    }

-- one that is listed already, or isn't there
pub listed_none : (s : Store) (o : ℕ) → Listable s → stays_in (at s.places.spots o) ≡ false → Lists s s (map (on_spot o to_leave) s.places.spots)
listed_none s o h gone = record {
  places = ap (λ (y : Spots). record { spots = y; spare = s.places.spare }) (sym same);
  firsts = refl;
  live = refl;
  listable = h;
  same = refl;
}
  where
    leave : (p : Spot) → not p.leaves ≡ false → to_leave p ≡ p
    leave p e = ap (λ (b : Bool). record p { leaves = b }) (sym (by p.leaves e))
      where
        by : (b : Bool) → not b ≡ false → b ≡ true
        by true e = refl
        by false e = absurd cc

    here : (x : Option Spot) → at s.places.spots o ≡ x → on_spot o to_leave (at s.places.spots o) ≡ at s.places.spots o
    here None is = rw is refl
    here (Some p) is = here_on o to_leave s.places.spots h.numbered p is ∙ (ap Some (leave p (sym (ap (λ (x : Option Spot). stays_in x) is) ∙ gone)) ∙ sym is)

    same : map (on_spot o to_leave) s.places.spots ≡ s.places.spots
    same = same_spots _ _ (length-map s.places.spots (on_spot o to_leave)) (λ n. at_map (on_spot o to_leave) refl s.places.spots n ∙ elim (cases_eq n o) [
      | inl e ↦ subst (λ (m : ℕ). on_spot o to_leave (at s.places.spots m) ≡ at s.places.spots m) (sym e) (here (at s.places.spots o) refl)
      | inr ne ↦ at_on o to_leave s.places.spots h.numbered n ne
    ])
