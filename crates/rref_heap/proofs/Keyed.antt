-- Keys by number: what stands at a number, and places that are added, changed or taken out.
use Rattle.std.proofs.Common.{◌≡◌, ◌⊎◌, ℕ, zero, suc, ◌+◌, ◌-◌, ◌<◌, ◌≤◌, ◌++◌, List, [], ◌∷◌, length, map, Option, Some, None, is_some, cond, count_by, refl, sym, ap, ◌∙◌, subst, arith, inl, inr, length-append}
use Rattle.std.specs.Prelude.{slice_index_or, slice_set}
use Rattle.std.proofs.lemmas.Bool.{cases_eq, cases_lt}
use Rattle.std.proofs.lemmas.List.{get_or-set_same, get_or-set_other, get_or_past, length-set, length-map, map-append, get_or_append_left}
use Rattle.std.proofs.lemmas.List.Sums.{sum_by-set, sum_by_push}
use Rattle.std.proofs.Math.Seq.{get_or-append_seam}
use Rattle.std.proofs.Math.ListN.{get_or-map}
use Rattle.slab.specs.Slab.{Slab, get, slab_len, with_value, Updates}
use Rattle.slab.proofs.SlabLemmas.{ContainsKey-within, Updates-with_value}
use Rattle.rref_heap.specs.Spots.{Spot, Spots, PlacesValue, at, Numbered, on_spot, unless_spot, spot_in, spot_of}
use Rattle.rref_heap.specs.Keyed.{key_at, spot_under, IsKeyed}
use Rattle.rref_heap.specs.declared.place.Place.{Place}
use Rattle.rref_heap.proofs.Spots.{same_some, same_spots, at_map, at_on, at_unless, here_on, here_unless, none_on}

-- what is seen of the places
abbrev valued : Slab Place → List (Option ℕ) → ℕ → PlacesValue
valued places keys room = record { spots = map (spot_under places) keys; spare = room }

-- what stands at a number
pub at_spots : (places : Slab Place) (keys : List (Option ℕ)) (n : ℕ) → at (map (spot_under places) keys) n ≡ spot_under places (key_at keys n)
at_spots places keys zero = refl
at_spots places keys (suc k) = get_or-map (spot_under places) keys k None

-- a number that has a key is one of the list's
pub key_within : (keys : List (Option ℕ)) (n key : ℕ) → key_at keys n ≡ Some key → (0 < n) × (n ≤ length keys)
key_within keys zero key is = absurd cc
key_within keys (suc k) key is = (
  omega arith,
  elim (cases_lt k (length keys)) [
    | inl lt ↦ omega arith
    | inr le ↦ absurd (let none : None ≡ Some key = sym (get_or_past keys k None le) ∙ is in cc)
  ],
)

-- a key that is written at a number
key_at_set_same : (keys : List (Option ℕ)) (n : ℕ) (x : Option ℕ) → 0 < n → n ≤ length keys → key_at (slice_set keys (n - 1) x) n ≡ x
key_at_set_same keys zero x pos le = absurd (omega arith)
key_at_set_same keys (suc k) x pos le = let e : suc k - 1 ≡ k = omega arith in subst (λ (j : ℕ). slice_index_or (slice_set keys j x) k None ≡ x) (sym e) (get_or-set_same keys k x None (omega arith))

key_at_set_other : (keys : List (Option ℕ)) (n m : ℕ) (x : Option ℕ) → 0 < n → (m ≡ n → ⊥) → key_at (slice_set keys (n - 1) x) m ≡ key_at keys m
key_at_set_other keys n zero x pos ne = refl
key_at_set_other keys n (suc k) x pos ne = get_or-set_other keys (n - 1) k x None (λ same. ne (omega arith))

-- how many there are after a write
count_set : {X : Type 0} (xs : List (Option X)) (i : ℕ) (old new : Option X) → i < length xs → slice_index_or xs i None ≡ old
    → count_by is_some (slice_set xs i new) + cond (is_some old) 1 0 ≡ count_by is_some xs + cond (is_some new) 1 0
count_set xs i old new lt is = rw is at (sum_by-set (λ o. cond (is_some o) 1 0) xs i new None lt)

module _ {keys : List (Option ℕ)} {capacity : ℕ} {places : Slab Place} {room : ℕ} (keyed : IsKeyed keys capacity places room) where
  pub numbered : Numbered (map (spot_under places) keys)
  numbered n p is = go (key_at keys n) refl
    where
      go : (x : Option ℕ) → key_at keys n ≡ x → p.number ≡ n
      go None e = absurd (let x : None ≡ Some p = ap (spot_under places) (sym e) ∙ (sym (at_spots places keys n) ∙ is) in cc)
      go (Some key) e =
          let r = keyed.leads n key e in
          let x : Some (spot_of r.0) ≡ Some p = ap (λ y. spot_in y) (sym r.1) ∙ (ap (spot_under places) (sym e) ∙ (sym (at_spots places keys n) ∙ is)) in
          ap (λ (s : Spot). s.number) (sym (same_some x)) ∙ r.2

  -- the place under the key of a number has this number
  pub number_under : (n key : ℕ) (p : Place) → key_at keys n ≡ Some key → get places key ≡ Some p → p.number ≡ n
  number_under n key p is found =
      let r = keyed.leads n key is in
      ap (λ (q : Place). q.number) (same_some (sym found ∙ r.1)) ∙ r.2

  pub at_key : (n key : ℕ) (p : Place) → key_at keys n ≡ Some key → get places key ≡ Some p → at (map (spot_under places) keys) n ≡ Some (spot_of p)
  at_key n key p is found = at_spots places keys n ∙ (ap (spot_under places) is ∙ ap (λ y. spot_in y) found)

  pub at_no_key : (n : ℕ) → key_at keys n ≡ None → at (map (spot_under places) keys) n ≡ None
  at_no_key n is = at_spots places keys n ∙ ap (spot_under places) is

  -- two numbers have two keys
  other_key : (n m key : ℕ) → key_at keys n ≡ Some key → key_at keys m ≡ Some key → m ≡ n
  other_key n m key is also =
      let r = keyed.leads n key is in
      sym (number_under m key r.0 also r.1) ∙ r.2

  -- a change under one key is seen at its number alone
  elsewhere : (new : Slab Place) (n m key : ℕ) (slot : Option Place) → key_at keys n ≡ Some key → Updates places new key slot → (m ≡ n → ⊥) → spot_under new (key_at keys m) ≡ spot_under places (key_at keys m)
  elsewhere new n m key slot is updates ne = go (key_at keys m) refl
    where
      go : (x : Option ℕ) → key_at keys m ≡ x → spot_under new x ≡ spot_under places x
      go None e = refl
      go (Some other) e = ap (λ y. spot_in y) (updates.others other (λ same. ne (other_key n m key is (e ∙ ap Some same))))

  -- a place is changed
  pub changed_spots : (n key : ℕ) (f : Spot → Spot) (p q : Place) → key_at keys n ≡ Some key → get places key ≡ Some p → spot_of q ≡ f (spot_of p)
      → map (spot_under (with_value places key q)) keys ≡ map (on_spot n f) (map (spot_under places) keys)
  changed_spots n key f p q is found same = same_spots _ _ lengths (λ m. at_spots new keys m ∙ (step m (cases_eq m n) ∙ sym (at_map (on_spot n f) refl spots m)))
    where
      new : Slab Place
      new = with_value places key q

      spots : List (Option Spot)
      spots = map (spot_under places) keys

      updates : Updates places new key (Some q)
      updates = Updates-with_value places key q (rw found refl)

      lengths : length (map (spot_under new) keys) ≡ length (map (on_spot n f) spots)
      lengths = length-map keys (spot_under new) ∙ sym (length-map spots (on_spot n f) ∙ length-map keys (spot_under places))

      step : (m : ℕ) → (m ≡ n) ⊎ (m ≡ n → ⊥) → spot_under new (key_at keys m) ≡ on_spot n f (at spots m)
      step m (inl e) = rw e (ap (spot_under new) is ∙ (ap (λ y. spot_in y) updates.changed ∙ (ap Some same ∙ sym (here_on n f spots numbered (spot_of p) (at_key n key p is found)))))
      step m (inr ne) = elsewhere new n m key (Some q) is updates ne ∙ (sym (at_spots places keys m) ∙ sym (at_on n f spots numbered m ne))

  pub changed : (n key : ℕ) (f : Spot → Spot) (p q : Place) → key_at keys n ≡ Some key → get places key ≡ Some p → spot_of q ≡ f (spot_of p)
      → valued (with_value places key q) keys room ≡ record { spots = map (on_spot n f) (map (spot_under places) keys); spare = room }
  changed n key f p q is found same = ap (λ (s : Spots). record { spots = s; spare = room }) (changed_spots n key f p q is found same)

  -- no place is there to be changed
  pub untouched : (n : ℕ) (f : Spot → Spot) → key_at keys n ≡ None → valued places keys room ≡ record { spots = map (on_spot n f) (map (spot_under places) keys); spare = room }
  untouched n f is = ap (λ (s : Spots). record { spots = s; spare = room }) (sym (none_on n f (map (spot_under places) keys) numbered (at_no_key n is)))

  pub changed_keyed : (n key : ℕ) (p q : Place) → key_at keys n ≡ Some key → get places key ≡ Some p → q.number ≡ p.number → IsKeyed keys capacity (with_value places key q) room
  changed_keyed n key p q is found number =
      let new : Slab Place = with_value places key q in
      let updates : Updates places new key (Some q) = Updates-with_value places key q (rw found refl) in
      let within : key < length places.slots = ContainsKey-within places key (rw found refl) in
      let same : slab_len new ≡ slab_len places = (let e = count_set places.slots key (Some p) (Some q) within found in omega (arith, e)) in
      record {
        leads = λ m other e. elim (cases_eq other key) [
          | inl here ↦ (q, ap (get new) here ∙ updates.changed, number ∙ number_under m key p (e ∙ ap Some here) found)
          | inr ne ↦ (let r = keyed.leads m other e in (r.0, updates.others other ne ∙ r.1, r.2))
        ];
        live = same ∙ keyed.live;
        room_for_keys = keyed.room_for_keys;
        room_for_places = let old = keyed.room_for_places in omega (arith, same, old);
      }

  -- a place is taken out
  pub taken_spots : (new : Slab Place) (n key : ℕ) → key_at keys n ≡ Some key → Updates places new key None
      → map (spot_under new) (slice_set keys (n - 1) None) ≡ map (unless_spot n) (map (spot_under places) keys)
  taken_spots new n key is updates = same_spots _ _ lengths (λ m. at_spots new left m ∙ (step m (cases_eq m n) ∙ sym (at_map (unless_spot n) refl spots m)))
    where
      left : List (Option ℕ)
      left = slice_set keys (n - 1) None

      spots : List (Option Spot)
      spots = map (spot_under places) keys

      within : (0 < n) × (n ≤ length keys)
      within = key_within keys n key is

      lengths : length (map (spot_under new) left) ≡ length (map (unless_spot n) spots)
      lengths = length-map left (spot_under new) ∙ (length-set keys (n - 1) None ∙ sym (length-map spots (unless_spot n) ∙ length-map keys (spot_under places)))

      step : (m : ℕ) → (m ≡ n) ⊎ (m ≡ n → ⊥) → spot_under new (key_at left m) ≡ unless_spot n (at spots m)
      step m (inl e) = rw e (ap (spot_under new) (key_at_set_same keys n None within.0 within.1) ∙ sym (here_unless n spots numbered))
      step m (inr ne) = ap (spot_under new) (key_at_set_other keys n m None within.0 ne) ∙ (elsewhere new n m key None is updates ne ∙ (sym (at_spots places keys m) ∙ sym (at_unless n spots numbered m ne)))

  pub taken_keyed : (new : Slab Place) (n key : ℕ) → key_at keys n ≡ Some key → Updates places new key None → slab_len new + 1 ≡ slab_len places → new.capacity ≡ places.capacity
      → IsKeyed (slice_set keys (n - 1) None) capacity new room
  taken_keyed new n key is updates fewer same =
      let within = key_within keys n key is in
      let kept = length-set keys (n - 1) None in
      record {
        leads = λ m other e. elim (cases_eq m n) [
          | inl here ↦ absurd (let x : None ≡ Some other = sym (key_at_set_same keys n None within.0 within.1) ∙ (ap (key_at (slice_set keys (n - 1) None)) (sym here) ∙ e) in cc)
          | inr ne ↦ (
              let was : key_at keys m ≡ Some other = sym (key_at_set_other keys n m None within.0 ne) ∙ e in
              let r = keyed.leads m other was in
              (r.0, updates.others other (λ here. ne (other_key n m key is (was ∙ ap Some here))) ∙ r.1, r.2))
        ];
        live = let e = count_set keys (n - 1) (Some key) None (omega (arith, within.0, within.1)) (before n is) in let was = keyed.live in omega (arith, e, was, fewer);
        room_for_keys = let old = keyed.room_for_keys in omega (arith, kept, old);
        room_for_places = let old = keyed.room_for_places in omega (arith, old, fewer, same);
      }
    where
      before : (n : ℕ) → key_at keys n ≡ Some key → slice_index_or keys (n - 1) None ≡ Some key
      before zero is = absurd cc
      before (suc k) is = let e : suc k - 1 ≡ k = omega arith in subst (λ (j : ℕ). slice_index_or keys j None ≡ Some key) (sym e) is

  -- there is more room
  pub reserved : (same : List (Option ℕ)) (more : ℕ) (new : Slab Place) (rooms : ℕ) → same ≡ keys → new.slots ≡ places.slots → length keys + rooms ≤ more → slab_len places + rooms ≤ new.capacity → IsKeyed same more new rooms
  reserved same more new rooms is slots for_keys for_places =
      let count : slab_len new ≡ slab_len places = ap (λ (l : List (Option Place)). count_by is_some l) slots in
      let long : length same ≡ length keys = ap length is in
      record {
        leads = λ n key e. let r = keyed.leads n key (ap (λ (l : List (Option ℕ)). key_at l n) (sym is) ∙ e) in (r.0, ap (λ (l : List (Option Place)). slice_index_or l key None) slots ∙ r.1, r.2);
        live = count ∙ (keyed.live ∙ ap (λ (l : List (Option ℕ)). count_by is_some l) (sym is));
        room_for_keys = omega (arith, long, for_keys);
        room_for_places = omega (arith, count, for_places);
      }

  -- a place is added
  added_key : (key n : ℕ) → n ≤ length keys → key_at (keys ++ Some key ∷ []) n ≡ key_at keys n
  added_key key zero le = refl
  added_key key (suc k) le = get_or_append_left keys (Some key ∷ []) None k (omega arith)

  -- a key that was vacant is no number's
  vacant_differs : (n key other : ℕ) → get places key ≡ None → key_at keys n ≡ Some other → (other ≡ key → ⊥)
  vacant_differs n key other vacant is same =
      let r = keyed.leads n other is in
      let x : None ≡ Some r.0 = sym vacant ∙ (ap (get places) (sym same) ∙ r.1) in
      cc

  pub added_spots : (new : Slab Place) (key : ℕ) (p : Place) → get places key ≡ None → Updates places new key (Some p)
      → map (spot_under new) (keys ++ Some key ∷ []) ≡ map (spot_under places) keys ++ Some (spot_of p) ∷ []
  added_spots new key p vacant updates = map-append (spot_under new) keys (Some key ∷ []) ∙ (ap (λ (l : List (Option Spot)). l ++ spot_under new (Some key) ∷ []) same ∙ ap (λ (x : Option Place). map (spot_under places) keys ++ spot_in x ∷ []) updates.changed)
    where
      at_number : (m : ℕ) (x : Option ℕ) → key_at keys m ≡ x → spot_under new x ≡ spot_under places x
      at_number m None e = refl
      at_number m (Some other) e = ap (λ y. spot_in y) (updates.others other (vacant_differs m key other vacant e))

      same : map (spot_under new) keys ≡ map (spot_under places) keys
      same = same_spots _ _ (length-map keys (spot_under new) ∙ sym (length-map keys (spot_under places))) (λ m. at_spots new keys m ∙ (at_number m (key_at keys m) refl ∙ sym (at_spots places keys m)))

  pub added_keyed : (new : Slab Place) (key : ℕ) (p : Place) → 0 < room → get places key ≡ None → Updates places new key (Some p) → slab_len new ≡ slab_len places + 1 → new.capacity ≡ places.capacity
      → p.number ≡ length keys + 1 → IsKeyed (keys ++ Some key ∷ []) capacity new (room - 1)
  added_keyed new key p some vacant updates more same number =
      let longer = length-append keys (Some key ∷ []) in
      record {
        leads = λ m other e. elim (cases_lt (length keys) m) [
          | inr le ↦ (
              let was : key_at keys m ≡ Some other = sym (added_key key m le) ∙ e in
              let r = keyed.leads m other was in
              (r.0, updates.others other (vacant_differs m key other vacant was) ∙ r.1, r.2))
          | inl lt ↦ (let r = last m other lt e in (p, ap (get new) (sym r.0) ∙ updates.changed, number ∙ sym r.1))
        ];
        live = let e = sum_by_push (λ (o : Option ℕ). cond (is_some o) 1 0) keys (Some key) in let was = keyed.live in omega (arith, e, was, more);
        room_for_keys = let old = keyed.room_for_keys in omega (arith, some, longer, old);
        room_for_places = let old = keyed.room_for_places in omega (arith, some, old, more, same);
      }
    where
      last : (m other : ℕ) → length keys < m → key_at (keys ++ Some key ∷ []) m ≡ Some other → (key ≡ other) × (m ≡ length keys + 1)
      last zero other lt e = absurd (omega arith)
      last (suc k) other lt e = elim (cases_eq k (length keys)) [
        | inl here ↦ (
            let seam : slice_index_or (keys ++ Some key ∷ []) k None ≡ Some key = subst (λ (j : ℕ). slice_index_or (keys ++ Some key ∷ []) j None ≡ Some key) (sym here) (get_or-append_seam keys (Some key) [] None) in
            (same_some (sym seam ∙ e), omega (arith, here)))
        | inr ne ↦ absurd (
            let longer = length-append keys (Some key ∷ []) in
            let x : None ≡ Some other = sym (get_or_past (keys ++ Some key ∷ []) k None (omega (arith, longer, lt, ne))) ∙ e in cc)
      ]
