-- Changes of one spot that leave alone how objects hang, which of them leave and how many there are.
use Rattle.std.proofs.Common.{◌≡◌, ℕ, suc, ◌≤◌, ◌==◌, true, List, [], ◌∷◌, length, map, Option, Some, None, refl, sym, ap, ◌∙◌, subst, arith, inl, inr}
use Rattle.std.specs.Option.{option_map}
use Rattle.std.proofs.lemmas.Bool.{cases_eq, cases_Bool}
use Rattle.std.proofs.lemmas.List.{length-map}
use Rattle.rref_heap.specs.HeapValue.{HeapRow, HeapRows, heap_objects}
use Rattle.rref_heap.specs.Changing.{on_row}
use Rattle.rref_heap.specs.Spots.{Spot, Spots, at, Numbered, on_spot, row_of_spot, rows_in}
use Rattle.rref_heap.specs.Store.{Nest, nest_of, nests_in, IsNested, IsListing}
use Rattle.rref_heap.proofs.Spots.{same_some, at_map, at_on, here_on}

-- the spots of one list have been changed to those of another, and nothing is seen of it but links
pub record Quiet (a b : Spots) : Type 0 where
  pub numbered : Numbered b
  pub nests : (n : ℕ) → nests_in b n ≡ nests_in a n
  pub count : length (heap_objects (rows_in b)) ≡ length (heap_objects (rows_in a))
  pub len : length b ≡ length a

pub quiet_then : (a b c : Spots) → Quiet a b → Quiet b c → Quiet a c
quiet_then a b c p q = record { numbered = q.numbered; nests = λ n. q.nests n ∙ p.nests n; count = q.count ∙ p.count; len = q.len ∙ p.len }

-- any view of a spot that the change keeps is the same everywhere
pub each_on : {A : Type 0} (view : Option Spot → Option A) (k : ℕ) (f : Spot → Spot) (spots : Spots) → Numbered spots → ((q : Spot) → at spots k ≡ Some q → view (Some (f q)) ≡ view (Some q)) → (n : ℕ) → view (at (map (on_spot k f) spots) n) ≡ view (at spots n)
each_on view k f spots numbered same n = ap view (at_map (on_spot k f) refl spots n) ∙ elim (cases_eq n k) [
  | inr ne ↦ ap view (at_on k f spots numbered n ne)
  | inl e ↦ subst (λ (m : ℕ). view (on_spot k f (at spots m)) ≡ view (at spots m)) (sym e) (go (at spots k) refl)
]
  where
    go : (x : Option Spot) → at spots k ≡ x → view (on_spot k f (at spots k)) ≡ view (at spots k)
    go None is = rw is refl
    go (Some q) is = ap view (here_on k f spots numbered q is) ∙ (same q is ∙ ap view (sym is))

pub numbered_on : (k : ℕ) (f : Spot → Spot) (spots : Spots) → Numbered spots → ((q : Spot) → (f q).number ≡ q.number) → Numbered (map (on_spot k f) spots)
numbered_on k f spots numbered keeps n r is = go (at spots n) refl
  where
    go : (x : Option Spot) → at spots n ≡ x → r.number ≡ n
    go None was = absurd (let x : None ≡ Some r = sym (at_map (on_spot k f) refl spots n ∙ ap (on_spot k f) was) ∙ is in cc)
    go (Some q) was = elim (cases_Bool (q.number == k)) [
      | inl e ↦ (let x : on_spot k f (Some q) ≡ Some (f q) = rw e refl in let y : f q ≡ r = same_some (sym x ∙ (sym (at_map (on_spot k f) refl spots n ∙ ap (on_spot k f) was) ∙ is)) in sym (ap (λ (s : Spot). s.number) y) ∙ (keeps q ∙ numbered n q was))
      | inr e ↦ (let x : on_spot k f (Some q) ≡ Some q = rw e refl in let y : q ≡ r = same_some (sym x ∙ (sym (at_map (on_spot k f) refl spots n ∙ ap (on_spot k f) was) ∙ is)) in sym (ap (λ (s : Spot). s.number) y) ∙ numbered n q was)
    ]

pub count_on : (k : ℕ) (f : Spot → Spot) (spots : Spots) → length (heap_objects (rows_in (map (on_spot k f) spots))) ≡ length (heap_objects (rows_in spots))
count_on k f [] = refl
count_on k f (None ∷ xs) = count_on k f xs
count_on k f (Some q ∷ xs) = ap (λ n. suc n) (count_on k f xs)

pub quiet_on : (k : ℕ) (f : Spot → Spot) (spots : Spots) → Numbered spots → ((q : Spot) → (f q).number ≡ q.number) → ((q : Spot) → at spots k ≡ Some q → nest_of (f q) ≡ nest_of q) → Quiet spots (map (on_spot k f) spots)
quiet_on k f spots numbered keeps same = record {
  numbered = numbered_on k f spots numbered keeps;
  nests = each_on (λ x. option_map nest_of x) k f spots numbered (λ q is. ap Some (same q is));
  count = count_on k f spots;
  len = length-map spots (on_spot k f);
}

-- the rows that are seen
pub rows_on : (k : ℕ) (f : Spot → Spot) (g : HeapRow → HeapRow) (spots : Spots) → ((q : Spot) → (q.number == k) ≡ true → row_of_spot (f q) ≡ g (row_of_spot q)) → rows_in (map (on_spot k f) spots) ≡ map (on_row k g) (rows_in spots)
rows_on k f g [] same = refl
rows_on k f g (None ∷ xs) same = ap (λ (r : HeapRows). None ∷ r) (rows_on k f g xs same)
rows_on k f g (Some q ∷ xs) same = elim (cases_Bool (q.number == k)) [
  | inl e ↦ rw (e, rows_on k f g xs same, same q e) refl
  | inr e ↦ rw (e, rows_on k f g xs same) refl
]

pub rows_same : (k : ℕ) (f : Spot → Spot) (spots : Spots) → ((q : Spot) → row_of_spot (f q) ≡ row_of_spot q) → rows_in (map (on_spot k f) spots) ≡ rows_in spots
rows_same k f [] same = refl
rows_same k f (None ∷ xs) same = ap (λ (r : HeapRows). None ∷ r) (rows_same k f xs same)
rows_same k f (Some q ∷ xs) same = elim (cases_Bool (q.number == k)) [
  | inl e ↦ rw (e, rows_same k f xs same, same q) refl
  | inr e ↦ rw (e, rows_same k f xs same) refl
]

-- how objects hang, and the list, said of another function
pub same_nested : (N M : ℕ → Option Nest) (top top' : ℕ) → ((n : ℕ) → M n ≡ N n) → top ≤ top' → IsNested N top → IsNested M top'
same_nested N M top top' same more h = record {
  hangs = λ n p c is hung. (
      let x = h.hangs n p c (sym (same n) ∙ is) hung in
      record {
        low = x.low;
        in_parent = λ q at_q. x.in_parent q (sym (same c.parent) ∙ at_q);
        alone = λ none. x.alone (sym (same c.parent) ∙ none);
      });
  holds = λ n place v q is cell pos. (
      let x = h.holds n place v q (sym (same n) ∙ is) cell pos in
      record {
        there = λ p at_p. x.there p (sym (same v) ∙ at_p);
        gone = λ none. x.gone (sym (same v) ∙ none);
      });
  wide = λ n p is. h.wide n p (sym (same n) ∙ is);
  parents = λ n p c is hung. (let x = h.parents n p c (sym (same n) ∙ is) hung in omega arith);
  past = λ n place v q is cell. (let x = h.past n place v q (sym (same n) ∙ is) cell in omega arith);
  alone = λ n u p q c is is' a b. h.alone n u p q c (sym (same n) ∙ is) (sym (same u) ∙ is') a b;
}

pub same_listing : (N M : ℕ → Option Nest) (numbers : List ℕ) → ((n : ℕ) → M n ≡ N n) → IsListing N numbers → IsListing M numbers
same_listing N M numbers same h = record { same = λ n. rw (same n) (h.same n); once = h.once }
