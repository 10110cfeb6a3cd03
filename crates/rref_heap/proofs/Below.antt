-- What hangs in an object is listed with it.
use Rattle.std.proofs.Common.{◌≡◌, ℕ, zero, suc, ◌+◌, ◌<◌, ◌==◌, ◌||◌, ◌++◌, Bool, true, false, if◌then◌else◌, List, [], ◌∷◌, length, map, take, Option, Some, None, refl, sym, ap, ◌∙◌, subst, arith, inl, inr}
use Rattle.std.specs.Prelude.{slice_index_or, is_some}
use Rattle.std.specs.Option.{option_map, option_map_or}
use Rattle.std.proofs.lemmas.Bool.{cases_eq, eq-eqb, eqb-true}
use Rattle.std.proofs.lemmas.List.{length-map, take_more, take_all}
use Rattle.machine_defs.specs.State.{Placement, Root, Hung}
use Rattle.machine_defs.specs.Arguments.{has}
use Rattle.rref_heap.specs.HeapValue.{HeapRow, HeapRows, heap_objects}
use Rattle.rref_heap.specs.Changing.{hangs_below, with_leaving}
use Rattle.rref_heap.specs.Spots.{Spot, Spots, PlacesValue, at, Numbered, on_spot, row_of_spot, row_at, rows_in, to_leave, width_of, below_in}
use Rattle.rref_heap.specs.Links.{LinksBut, Links, link_by, link_of, links_in}
use Rattle.rref_heap.specs.declared.store.Store.{Store}
use Rattle.rref_heap.specs.Store.{Cell, Nest, cell_of, nest_of, nests_in, IsNested, Hanged, Listable, Lists, IsStore, Becomes, if_below}
use Rattle.rref_heap.proofs.Spots.{same_some, unequal, same_spots, at_map}
use Rattle.rref_heap.proofs.Links.{same_links}
use Rattle.rref_heap.proofs.Leavers.{has_push, in_tail}

-- those that a list names leave
abbrev pub if_named : List ℕ → Option Spot → Option Spot
if_named xs None = None
if_named xs (Some p) = Some (if has xs p.number then to_leave p else p)

abbrev pub belows : Spots → ℕ → List ℕ
belows spots o = option_map_or (λ p. p.below) (at spots o) []

eq_sym : (a b : ℕ) → (a == b) ≡ (b == a)
eq_sym a b = elim (cases_eq a b) [
  | inl e ↦ eq-eqb a b e ∙ sym (eq-eqb b a (sym e))
  | inr ne ↦ unequal a b ne ∙ sym (unequal b a (λ e. ne (sym e)))
]

pub named_none : (spots : Spots) → map (if_named []) spots ≡ spots
named_none [] = refl
named_none (None ∷ xs) = ap (λ (l : Spots). None ∷ l) (named_none xs)
named_none (Some p ∷ xs) = ap (λ (l : Spots). Some p ∷ l) (named_none xs)

one_named : (xs : List ℕ) (v : ℕ) (p : Spot) (b c : Bool) → has xs p.number ≡ b → (p.number == v) ≡ c → on_spot v to_leave (if_named xs (Some p)) ≡ Some (if (b || c) then to_leave p else p)
one_named xs v p true true e f = rw (e, f) refl
one_named xs v p true false e f = rw (e, f) refl
one_named xs v p false true e f = rw (e, f) refl
one_named xs v p false false e f = rw (e, f) refl

pub named_more : (xs : List ℕ) (v : ℕ) (spots : Spots) → map (on_spot v to_leave) (map (if_named xs) spots) ≡ map (if_named (xs ++ v ∷ [])) spots
named_more xs v [] = refl
named_more xs v (None ∷ ys) = ap (λ (l : Spots). None ∷ l) (named_more xs v ys)
named_more xs v (Some p ∷ ys) =
    let a = one_named xs v p (has xs p.number) (p.number == v) refl refl in
    let b : has (xs ++ v ∷ []) p.number ≡ (has xs p.number || (p.number == v)) = has_push xs v p.number ∙ ap (λ (k : Bool). has xs p.number || k) (eq_sym v p.number) in
    let c : Some (if (has xs p.number || (p.number == v)) then to_leave p else p) ≡ if_named (xs ++ v ∷ []) (Some p) = ap (λ (k : Bool). Some (if k then to_leave p else p)) (sym b) in
    ap (λ (l : Spots). on_spot v to_leave (if_named xs (Some p)) ∷ l) (named_more xs v ys) ∙ ap (λ (x : Option Spot). x ∷ map (if_named (xs ++ v ∷ [])) ys) (a ∙ c)

named_below : (xs : List ℕ) (x : Option Spot) (k : ℕ) → below_in (if_named xs x) k ≡ below_in x k
named_below xs None k = refl
named_below xs (Some p) k = by (has xs p.number)
  where
    by : (b : Bool) → slice_index_or (if b then to_leave p else p).below k 0 ≡ slice_index_or p.below k 0
    by true = refl
    by false = refl

belows_index : (spots : Spots) (o k : ℕ) → below_in (at spots o) k ≡ slice_index_or (belows spots o) k 0
belows_index spots o k = go (at spots o)
  where
    go : (x : Option Spot) → below_in x k ≡ slice_index_or (option_map_or (λ p. p.below) x []) k 0
    go None = refl
    go (Some p) = refl

pub width_belows : (spots : Spots) (o : ℕ) → width_of (at spots o) ≡ length (belows spots o)
width_belows spots o = go (at spots o)
  where
    go : (x : Option Spot) → width_of x ≡ length (option_map_or (λ p. p.below) x [])
    go None = refl
    go (Some p) = refl

-- a step of the walk over the cells
pub listed_more : (s l z : Store) (o k v : ℕ) → k < length (belows s.places.spots o) → Lists s l (map (if_named (take k (belows s.places.spots o))) s.places.spots) → v ≡ below_in (at l.places.spots o) k → Lists l z (map (on_spot v to_leave) l.places.spots)
    → Lists s z (map (if_named (take (k + 1) (belows s.places.spots o))) s.places.spots)
listed_more s l z o k v lt a is b =
    let xs : List ℕ = belows s.places.spots o in
    let spots : l.places.spots ≡ map (if_named (take k xs)) s.places.spots = ap (λ (p : PlacesValue). p.spots) a.places in
    let v_is : v ≡ slice_index_or xs k 0 = is ∙ (ap (λ (y : Spots). below_in (at y o) k) spots ∙ (ap (λ (x : Option Spot). below_in x k) (at_map (if_named (take k xs)) refl s.places.spots o) ∙ (named_below (take k xs) (at s.places.spots o) k ∙ belows_index s.places.spots o k))) in
    let more : take (k + 1) xs ≡ take k xs ++ v ∷ [] = take_more xs k 0 lt ∙ ap (λ (y : ℕ). take k xs ++ y ∷ []) (sym v_is) in
    let all : map (on_spot v to_leave) l.places.spots ≡ map (if_named (take (k + 1) xs)) s.places.spots = ap (map (on_spot v to_leave)) spots ∙ (named_more (take k xs) v s.places.spots ∙ ap (λ (ys : List ℕ). map (if_named ys) s.places.spots) (sym more)) in
    let spare : l.places.spare ≡ s.places.spare = ap (λ (p : PlacesValue). p.spare) a.places in
    record {
      places = b.places ∙ (ap (λ (y : Spots). record { spots = y; spare = l.places.spare }) all ∙ ap (λ (n : ℕ). record { spots = map (if_named (take (k + 1) xs)) s.places.spots; spare = n }) spare);
      firsts = b.firsts ∙ a.firsts;
      live = b.live ∙ a.live;
      listable = b.listable;
      same = b.same ∙ a.same;
    }

pub listed_first : (s : Store) (o : ℕ) → Listable s → Lists s s (map (if_named (take 0 (belows s.places.spots o))) s.places.spots)
listed_first s o h = record { places = ap (λ (y : Spots). record { spots = y; spare = s.places.spare }) (sym (named_none s.places.spots)); firsts = refl; live = refl; listable = h; same = refl }

has_index : (xs : List ℕ) (n : ℕ) → has xs n ≡ true → (k : ℕ) × (slice_index_or xs k 0 ≡ n) × (k < length xs)
has_index [] n h = absurd cc
has_index (x ∷ xs) n h = has_index_by x xs n h (x == n) refl (λ t. has_index xs n t)
  where
    has_index_by : (x : ℕ) (xs : List ℕ) (n : ℕ) → has (x ∷ xs) n ≡ true → (b : Bool) → (x == n) ≡ b → (has xs n ≡ true → (k : ℕ) × (slice_index_or xs k 0 ≡ n) × (k < length xs)) → (k : ℕ) × (slice_index_or (x ∷ xs) k 0 ≡ n) × (k < length (x ∷ xs))
    has_index_by x xs n h true e ih = (0, eqb-true x n e, omega arith)
    has_index_by x xs n h false e ih = let r = ih (rw e at h) in (suc r.0, r.1, omega (arith, r.2))

index_has : (xs : List ℕ) (k n : ℕ) → slice_index_or xs k 0 ≡ n → k < length xs → has xs n ≡ true
index_has [] k n is lt = absurd (omega arith)
index_has (x ∷ xs) zero n is lt = rw (eq-eqb x n is) refl
index_has (x ∷ xs) (suc k) n is lt = in_tail x xs n (index_has xs k n is (omega arith))

hung_below : (pl : Placement) (o place : ℕ) → cell_of pl ≡ Some (record { parent = o; place = place }) → hangs_below o pl ≡ true
hung_below (Root w) o place is = absurd cc
hung_below (Hung parent k) o place is = eq-eqb parent o (ap (λ (c : Cell). c.parent) (same_some is))

below_hung : (pl : Placement) (o : ℕ) → hangs_below o pl ≡ true → (place : ℕ) × (cell_of pl ≡ Some (record { parent = o; place = place }))
below_hung (Root w) o is = absurd cc
below_hung (Hung parent k) o is = (k, ap (λ (n : ℕ). Some (record { parent = n; place = k })) (eqb-true parent o is))

-- those that an object's cells name are those that hang in it
module _ (spots : Spots) (o : ℕ) (top : ℕ) (numbered : Numbered spots) (nested : IsNested (nests_in spots) top) where
  named_case : (p : Spot) (a b : Bool) → ((a ≡ b → ⊥) → p.leaves ≡ true) → (if a then to_leave p else p) ≡ (if b then to_leave p else p)
  named_case p true true same = refl
  named_case p false false same = refl
  named_case p true false same = ap (λ (k : Bool). record p { leaves = k }) (sym (same (λ e. cc)))
  named_case p false true same = sym (ap (λ (k : Bool). record p { leaves = k }) (sym (same (λ e. cc))))

  agree : (n : ℕ) (p : Spot) → at spots n ≡ Some p → (a b : Bool) → has (belows spots o) p.number ≡ a → hangs_below o p.placement ≡ b → (a ≡ b → ⊥) → p.leaves ≡ true
  agree n p is true true ea eb ne = absurd (ne refl)
  agree n p is false false ea eb ne = absurd (ne refl)
  agree n p is true false ea eb ne = absurd (
      let number = numbered n p is in
      let i = has_index (belows spots o) p.number ea in
      go (at spots o) refl i number)
    where
      go : (x : Option Spot) → at spots o ≡ x → (k : ℕ) × (slice_index_or (belows spots o) k 0 ≡ p.number) × (k < length (belows spots o)) → p.number ≡ n → ⊥
      go None none i number = (let z : belows spots o ≡ [] = ap (λ (x : Option Spot). option_map_or (λ p. p.below) x []) none in let lt = i.2 in let l : length (belows spots o) ≡ 0 = ap length z in omega arith)
      go (Some q) there i number =
          let bl : belows spots o ≡ q.below = ap (λ (x : Option Spot). option_map_or (λ p. p.below) x []) there in
          let cell : slice_index_or q.below i.0 0 ≡ n = ap (λ (l : List ℕ). slice_index_or l i.0 0) (sym bl) ∙ (i.1 ∙ number) in
          let pos : 0 < n = above n is in
          let h = nested.holds o i.0 n (nest_of q) (ap (λ (x : Option Spot). option_map nest_of x) there) cell pos in
          let c = h.there (nest_of p) (ap (λ (x : Option Spot). option_map nest_of x) is) in
          let y : true ≡ false = sym (hung_below p.placement o i.0 c) ∙ eb in cc
        where
          above : (m : ℕ) → at spots m ≡ Some p → 0 < m
          above zero e = absurd cc
          above (suc m) e = omega arith
  agree n p is false true ea eb ne =
      let number = numbered n p is in
      let c = below_hung p.placement o eb in
      let h = nested.hangs n (nest_of p) (record { parent = o; place = c.0 }) (ap (λ (x : Option Spot). option_map nest_of x) is) c.1 in
      go (at spots o) refl c.0 h number
    where
      go : (x : Option Spot) → at spots o ≡ x → (place : ℕ) → Hanged (nests_in spots) (record { parent = o; place = place }) n (nest_of p) → p.number ≡ n → p.leaves ≡ true
      go None none place h number = h.alone (ap (λ (x : Option Spot). option_map nest_of x) none)
      go (Some q) there place h number =
          let r = h.in_parent (nest_of q) (ap (λ (x : Option Spot). option_map nest_of x) there) in
          let bl : belows spots o ≡ q.below = ap (λ (x : Option Spot). option_map_or (λ p. p.below) x []) there in
          let t : has q.below n ≡ true = index_has q.below place n r.0 r.1 in
          absurd (let y : true ≡ false = sym t ∙ (sym (ap (λ (l : List ℕ). has l n) bl) ∙ (ap (has (belows spots o)) (sym number) ∙ ea)) in cc)

  pub named_are_below : map (if_named (belows spots o)) spots ≡ map (if_below o) spots
  named_are_below = same_spots _ _ (length-map spots (if_named (belows spots o)) ∙ sym (length-map spots (if_below o))) (λ n. at_map (if_named (belows spots o)) refl spots n ∙ (go n (at spots n) refl ∙ sym (at_map (if_below o) refl spots n)))
    where
      go : (n : ℕ) (x : Option Spot) → at spots n ≡ x → if_named (belows spots o) (at spots n) ≡ if_below o (at spots n)
      go n None is = rw is refl
      go n (Some p) is = rw is (ap Some (named_case p (has (belows spots o) p.number) (hangs_below o p.placement) (agree n p is (has (belows spots o) p.number) (hangs_below o p.placement) refl refl)))

pub all_listed : (s z : Store) (o k : ℕ) → IsNested (nests_in s.places.spots) (length s.places.spots) → Listable s → k ≡ length (belows s.places.spots o) → Lists s z (map (if_named (take k (belows s.places.spots o))) s.places.spots) → Lists s z (map (if_below o) s.places.spots)
all_listed s z o k nested h k_is a =
    let all : take k (belows s.places.spots o) ≡ belows s.places.spots o = take_all k (belows s.places.spots o) (omega arith) in
    let e : map (if_named (take k (belows s.places.spots o))) s.places.spots ≡ map (if_below o) s.places.spots = ap (λ (l : List ℕ). map (if_named l) s.places.spots) all ∙ named_are_below s.places.spots o (length s.places.spots) h.numbered nested in
    subst (Lists s z) e a

-- an object leaves with what hangs in it
abbrev pub leave_whole : ℕ → Option Spot → Option Spot
leave_whole o None = None
leave_whole o (Some p) = Some (if (p.number == o) || hangs_below o p.placement then to_leave p else p)

whole_one : (o : ℕ) (p : Spot) (b c : Bool) → (p.number == o) ≡ b → hangs_below o p.placement ≡ c → on_spot o to_leave (if_below o (Some p)) ≡ Some (if b || c then to_leave p else p)
whole_one o p true true e f = rw (f, e) refl
whole_one o p true false e f = rw (f, e) refl
whole_one o p false true e f = rw (f, e) refl
whole_one o p false false e f = rw (f, e) refl

pub whole_is : (o : ℕ) (spots : Spots) → map (on_spot o to_leave) (map (if_below o) spots) ≡ map (leave_whole o) spots
whole_is o [] = refl
whole_is o (None ∷ xs) = ap (λ (l : Spots). None ∷ l) (whole_is o xs)
whole_is o (Some p ∷ xs) = ap (λ (l : Spots). on_spot o to_leave (if_below o (Some p)) ∷ l) (whole_is o xs) ∙ ap (λ (x : Option Spot). x ∷ map (leave_whole o) xs) (whole_one o p (p.number == o) (hangs_below o p.placement) refl refl)

row_marked : (p : Spot) (d : Bool) → row_of_spot (if d then to_leave p else p) ≡ record (row_of_spot p) { leaves = d || p.leaves }
row_marked p true = refl
row_marked p false = refl

pub link_marked : (p : Spot) (d : Bool) → link_of (Some (if d then to_leave p else p)) ≡ link_of (Some p)
link_marked p true = refl
link_marked p false = refl

pub nest_marked : (p : Spot) (d : Bool) → nest_of (if d then to_leave p else p) ≡ record (nest_of p) { leaves = d || p.leaves }
nest_marked p true = refl
nest_marked p false = refl

pub rows_whole : (o : ℕ) (spots : Spots) → rows_in (map (leave_whole o) spots) ≡ map (with_leaving o) (rows_in spots)
rows_whole o [] = refl
rows_whole o (None ∷ xs) = ap (λ (l : HeapRows). None ∷ l) (rows_whole o xs)
rows_whole o (Some p ∷ xs) = ap (λ (l : HeapRows). row_at (leave_whole o (Some p)) ∷ l) (rows_whole o xs) ∙ ap (λ (x : HeapRow). Some x ∷ map (with_leaving o) (rows_in xs)) (row_marked p ((p.number == o) || hangs_below o p.placement))

count_whole : (o : ℕ) (spots : Spots) → length (heap_objects (rows_in (map (leave_whole o) spots))) ≡ length (heap_objects (rows_in spots))
count_whole o [] = refl
count_whole o (None ∷ xs) = count_whole o xs
count_whole o (Some p ∷ xs) = ap (λ n. suc n) (count_whole o xs)

links_whole : (o : ℕ) (spots : Spots) (n : ℕ) → links_in (map (leave_whole o) spots) n ≡ links_in spots n
links_whole o spots n = ap link_of (at_map (leave_whole o) refl spots n) ∙ go (at spots n)
  where
    go : (x : Option Spot) → link_of (leave_whole o x) ≡ link_of x
    go None = refl
    go (Some p) = link_marked p ((p.number == o) || hangs_below o p.placement)

abbrev pub hangs_cell : ℕ → Option Cell → Bool
hangs_cell o None = false
hangs_cell o (Some c) = c.parent == o

abbrev pub marked : ℕ → ℕ → Nest → Nest
marked o n p = record p { leaves = ((n == o) || hangs_cell o p.hung) || p.leaves }

pub cell_hangs : (pl : Placement) (o : ℕ) → hangs_below o pl ≡ hangs_cell o (cell_of pl)
cell_hangs (Root w) o = refl
cell_hangs (Hung parent place) o = refl

nests_whole : (o : ℕ) (spots : Spots) → Numbered spots → (n : ℕ) → nests_in (map (leave_whole o) spots) n ≡ option_map (marked o n) (nests_in spots n)
nests_whole o spots numbered n = ap (λ (x : Option Spot). option_map nest_of x) (at_map (leave_whole o) refl spots n) ∙ go (at spots n) refl
  where
    go : (x : Option Spot) → at spots n ≡ x → option_map nest_of (leave_whole o (at spots n)) ≡ option_map (marked o n) (nests_in spots n)
    go None is = rw is refl
    go (Some p) is =
        let d : ((p.number == o) || hangs_below o p.placement) ≡ ((n == o) || hangs_cell o (cell_of p.placement)) = ap (λ (m : ℕ). (m == o) || hangs_below o p.placement) (numbered n p is) ∙ ap (λ (b : Bool). (n == o) || b) (cell_hangs p.placement o) in
        rw is (ap Some (nest_marked p ((p.number == o) || hangs_below o p.placement) ∙ ap (λ (b : Bool). record (nest_of p) { leaves = b || p.leaves }) d))

pub or_right : (a b : Bool) → b ≡ true → (a || b) ≡ true
or_right true b e = refl
or_right false b e = e

-- how objects hang where an object and what hangs in it are marked
module _ (N M : ℕ → Option Nest) (top o : ℕ) (h : IsNested N top) (root : (p : Nest) → N o ≡ Some p → p.hung ≡ None) (each : (n : ℕ) → M n ≡ option_map (marked o n) (N n)) where
  record Before (n : ℕ) (r : Nest) : Type 0 where
    nest : Nest
    was : N n ≡ Some nest
    now : r ≡ marked o n nest

  before_of : (n : ℕ) (r : Nest) → M n ≡ Some r → Before n r
  before_of n r is = go (N n) refl
    where
      go : (x : Option Nest) → N n ≡ x → Before n r
      go None e = absurd (let k : None ≡ Some r = sym (each n ∙ ap (option_map (marked o n)) e) ∙ is in cc)
      go (Some q) e = record { nest = q; was = e; now = same_some (sym is ∙ (each n ∙ ap (option_map (marked o n)) e)) }

  none_of : (n : ℕ) → M n ≡ None → N n ≡ None
  none_of n is = go (N n) refl
    where
      go : (x : Option Nest) → N n ≡ x → N n ≡ None
      go None e = e
      go (Some q) e = absurd (let k : Some (marked o n q) ≡ None = sym (each n ∙ ap (option_map (marked o n)) e) ∙ is in cc)

  hangs_now : (n : ℕ) (r : Nest) (c : Cell) → M n ≡ Some r → r.hung ≡ Some c → Hanged M c n r
  hangs_now n r c is hung =
      let b = before_of n r is in
      let p = b.nest in
      let p_hung : p.hung ≡ Some c = sym (ap (λ (x : Nest). x.hung) b.now) ∙ hung in
      let x = h.hangs n p c b.was p_hung in
      let not_o : (n == o) ≡ false = unequal n o (λ e. (let y : None ≡ Some c = sym (root p (ap N (sym e) ∙ b.was)) ∙ p_hung in cc)) in
      let r_leaves : r.leaves ≡ ((c.parent == o) || p.leaves) = ap (λ (y : Nest). y.leaves) b.now ∙ (rw (not_o, p_hung) refl) in
      record {
        low = ap (λ (y : Nest). y.below) b.now ∙ x.low;
        in_parent = λ q' at_parent. (
            let a = before_of c.parent q' at_parent in
            let q = a.nest in
            let y = x.in_parent q a.was in
            let below_same : q'.below ≡ q.below = ap (λ (z : Nest). z.below) a.now in
            let q_hung : q.hung ≡ None = top_of c.parent q a.was (y.1) in
            let q_leaves : q'.leaves ≡ ((c.parent == o) || q.leaves) = ap (λ (z : Nest). z.leaves) a.now ∙ (rw q_hung (ap (λ (k : Bool). k || q.leaves) (or_none (c.parent == o)))) in
            (ap (λ (l : List ℕ). slice_index_or l c.place 0) below_same ∙ y.0, subst (λ (l : List ℕ). c.place < length l) (sym below_same) y.1, r_leaves ∙ (ap (λ (k : Bool). (c.parent == o) || k) y.2 ∙ sym q_leaves)));
        alone = λ none. r_leaves ∙ or_right (c.parent == o) p.leaves (x.alone (none_of c.parent none));
      }
    where
      or_none : (k : Bool) → (k || false) ≡ k
      or_none true = refl
      or_none false = refl

      top_of : (m : ℕ) (q : Nest) → N m ≡ Some q → {k : ℕ} → k < length q.below → q.hung ≡ None
      top_of m q at_m {k} lt = go q.hung refl
        where
          go : (y : Option Cell) → q.hung ≡ y → q.hung ≡ None
          go None e = e
          go (Some d) e = absurd (let z = (h.hangs m q d at_m e).low in let l : length q.below ≡ 0 = ap length z in omega arith)

  pub nested_whole : IsNested M top
  nested_whole = record {
    hangs = hangs_now;
    holds = λ n place v r is cell pos. (
        let b = before_of n r is in
        let x = h.holds n place v b.nest b.was (ap (λ (l : List ℕ). slice_index_or l place 0) (sym (ap (λ (y : Nest). y.below) b.now)) ∙ cell) pos in
        record {
          there = λ p at_v. (let a = before_of v p at_v in ap (λ (y : Nest). y.hung) a.now ∙ x.there a.nest a.was);
          gone = λ none. ap (λ (y : Nest). y.leaves) b.now ∙ or_right ((n == o) || hangs_cell o b.nest.hung) b.nest.leaves (x.gone (none_of v none));
        });
    wide = λ n r is pos. (
        let b = before_of n r is in
        let same : r.below ≡ b.nest.below = ap (λ (y : Nest). y.below) b.now in
        ap length same ∙ (h.wide n b.nest b.was (subst (λ (l : List ℕ). 0 < length l) same pos) ∙ sym (ap (λ (y : Nest). y.width) b.now)));
    parents = λ n r c is hung. (let b = before_of n r is in h.parents n b.nest c b.was (sym (ap (λ (y : Nest). y.hung) b.now) ∙ hung));
    past = λ n place v r is cell. (let b = before_of n r is in h.past n place v b.nest b.was (ap (λ (l : List ℕ). slice_index_or l place 0) (sym (ap (λ (y : Nest). y.below) b.now)) ∙ cell));
    alone = λ n u r q c is is' a b. (let x = before_of n r is in let y = before_of u q is' in h.alone n u x.nest y.nest c x.was y.was (sym (ap (λ (k : Nest). k.hung) x.now) ∙ a) (sym (ap (λ (k : Nest). k.hung) y.now) ∙ b));
  }

pub root_nest : (spots : Spots) (o : ℕ) → is_some (links_in spots o) ≡ true → (p : Nest) → nests_in spots o ≡ Some p → p.hung ≡ None
root_nest spots o root p is = go (at spots o) refl
  where
    by : (pl : Placement) (next prev : ℕ) → is_some (link_by pl next prev) ≡ true → cell_of pl ≡ None
    by (Root w) next prev e = refl
    by (Hung parent place) next prev e = absurd cc

    go : (x : Option Spot) → at spots o ≡ x → p.hung ≡ None
    go None e = absurd (let k : None ≡ Some p = sym (ap (λ (x : Option Spot). option_map nest_of x) e) ∙ is in cc)
    go (Some q) e =
        let same : nest_of q ≡ p = same_some (sym (ap (λ (x : Option Spot). option_map nest_of x) e) ∙ is) in
        sym (ap (λ (y : Nest). y.hung) same) ∙ by q.placement q.next q.prev (sym (ap (λ (x : Option Spot). is_some (link_of x)) e) ∙ root)

pub listed_whole : (s l z : Store) (o : ℕ) → IsStore s → is_some (links_in s.places.spots o) ≡ true → Lists s l (map (if_below o) s.places.spots) → Lists l z (map (on_spot o to_leave) l.places.spots) → Becomes s z (map (with_leaving o) (rows_in s.places.spots))
listed_whole s l z o h root a b =
    let spots : z.places.spots ≡ map (leave_whole o) s.places.spots = ap (λ (v : PlacesValue). v.spots) b.places ∙ (ap (λ (v : PlacesValue). map (on_spot o to_leave) v.spots) a.places ∙ whole_is o s.places.spots) in
    let firsts : z.firsts ≡ s.firsts = b.firsts ∙ a.firsts in
    let live : z.live ≡ s.live = b.live ∙ a.live in
    let same : length z.listing.numbers + z.listing.spare ≡ length s.listing.numbers + s.listing.spare = b.same ∙ a.same in
    let count = count_whole o s.places.spots in
    let n : nests_in (map (leave_whole o) s.places.spots) ≡ nests_in (map (leave_whole o) s.places.spots) = refl in
    let room = h.room in
    let len : length z.places.spots ≡ length s.places.spots = ap length spots ∙ length-map s.places.spots (leave_whole o) in
    record {
      store = record {
        numbered = b.listable.numbered;
        links = subst (λ (y : Spots). Links y z.firsts) (sym spots) (subst (λ f. LinksBut (links_in (map (leave_whole o) s.places.spots)) f 0) (sym firsts) (same_links (links_in s.places.spots) (links_in (map (leave_whole o) s.places.spots)) s.firsts 0 (links_whole o s.places.spots) h.links));
        nested = subst (λ (k : ℕ). IsNested (nests_in z.places.spots) k) (sym len) (subst (λ (y : Spots). IsNested (nests_in y) (length s.places.spots)) (sym spots) (nested_whole (nests_in s.places.spots) (nests_in (map (leave_whole o) s.places.spots)) (length s.places.spots) o h.nested (root_nest s.places.spots o root) (nests_whole o s.places.spots h.numbered)));
        listed = b.listable.listed;
        count = live ∙ (h.count ∙ sym (ap (λ (y : Spots). length (heap_objects (rows_in y))) spots ∙ count));
        room = omega arith;
      };
      seen = ap rows_in spots ∙ rows_whole o s.places.spots;
      spare = ap (λ (v : PlacesValue). v.spare) b.places ∙ ap (λ (v : PlacesValue). v.spare) a.places;
      clients = ap (λ f. length f.clients) firsts;
      instances = ap (λ f. length f.instances) firsts;
      fewer = omega arith;
      room = same;
    }

-- and no link changes
pub listed_links : (s l z : Store) (o : ℕ) → Lists s l (map (if_below o) s.places.spots) → Lists l z (map (on_spot o to_leave) l.places.spots) → (n : ℕ) → links_in z.places.spots n ≡ links_in s.places.spots n
listed_links s l z o a b n =
    let spots : z.places.spots ≡ map (leave_whole o) s.places.spots = ap (λ (v : PlacesValue). v.spots) b.places ∙ (ap (λ (v : PlacesValue). map (on_spot o to_leave) v.spots) a.places ∙ whole_is o s.places.spots) in
    ap (λ (y : Spots). links_in y n) spots ∙ links_whole o s.places.spots n

pub unchanged : (s : Store) → IsStore s → Becomes s s (rows_in s.places.spots)
unchanged s h = record { store = h; seen = refl; spare = refl; clients = refl; instances = refl; fewer = omega arith; room = refl }

pub listable_of : (s : Store) → IsStore s → Listable s
listable_of s h = let c = h.count in let r = h.room in record { numbered = h.numbered; listed = h.listed; room = omega arith }
