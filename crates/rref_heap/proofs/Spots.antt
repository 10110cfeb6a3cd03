-- Lists of spots: what is at a number, and equal lists.
use Rattle.std.proofs.Common.{◌≡◌, ℕ, zero, suc, ◌+◌, ◌-◌, ◌<◌, ◌≤◌, ◌==◌, ◌++◌, true, false, List, [], ◌∷◌, length, map, drop, Option, Some, None, refl, sym, ap, ◌∙◌, subst, arith, inl, inr}
use Rattle.std.specs.Prelude.{slice_index_or, slice_set}
use Rattle.std.proofs.lemmas.Bool.{cases_eq, cases_lt, cases_Bool, eq-eqb, eqb-true}
use Rattle.std.proofs.lemmas.List.{get_or-set_same, get_or-set_other, get_or_past, length-set, length-map, ext_get_or, append-nil, get_or_append_left, drop_all}
use Rattle.std.proofs.Math.Seq.{get_or-append_seam}
use Rattle.std.proofs.Common.{length-append}
use Rattle.machine_defs.specs.Objects.{overwritten}
use Rattle.std.proofs.Math.ListN.{get_or-map}
use Rattle.rref_heap.specs.Spots.{Spot, Spots, at, Numbered, on_spot, unless_spot}

abbrev some_or : {A : Type 0} → A → Option A → A
some_or d None = d
some_or d (Some x) = x

pub same_some : {A : Type 0} {a b : A} → Some a ≡ Some b → a ≡ b
same_some {a = a} e = ap (λ x. some_or a x) e

-- two numbers that differ
pub unequal : (a b : ℕ) → (a ≡ b → ⊥) → (a == b) ≡ false
unequal a b ne = elim (cases_Bool (a == b)) [
  | inl e ↦ absurd (ne (eqb-true a b e))
  | inr e ↦ e
]

-- what is at a number of a list that is changed item by item
pub at_map : (g : Option Spot → Option Spot) → g None ≡ None → (spots : Spots) (n : ℕ) → at (map g spots) n ≡ g (at spots n)
at_map g none spots zero = sym none
at_map g none spots (suc k) = subst (λ (d : Option Spot). slice_index_or (map g spots) k d ≡ g (slice_index_or spots k None)) none (get_or-map g spots k None)

-- a number that has an object is one of the list's
pub at_within : (spots : Spots) (n : ℕ) (p : Spot) → at spots n ≡ Some p → (0 < n) × (n ≤ length spots)
at_within spots zero p is = absurd cc
at_within spots (suc k) p is = (
  omega arith,
  elim (cases_lt k (length spots)) [
    | inl lt ↦ omega arith
    | inr le ↦ absurd (let none : at spots (suc k) ≡ None = get_or_past spots k None le in let x : None ≡ Some p = sym none ∙ is in cc)
  ],
)

pub past_all : (spots : Spots) (n : ℕ) → length spots < n → at spots n ≡ None
past_all spots zero lt = refl
past_all spots (suc k) lt = get_or_past spots k None (omega arith)

-- lists of one length that agree at each number
pub same_spots : (a b : Spots) → length a ≡ length b → ((n : ℕ) → at a n ≡ at b n) → a ≡ b
same_spots a b len same = ext_get_or None a b len (λ j lt. same (suc j))

-- the spot at a number, changed or gone
pub at_on : (n : ℕ) (f : Spot → Spot) (spots : Spots) → Numbered spots → (m : ℕ) → (m ≡ n → ⊥) → on_spot n f (at spots m) ≡ at spots m
at_on n f spots numbered m ne = go (at spots m) refl
  where
    go : (x : Option Spot) → at spots m ≡ x → on_spot n f x ≡ x
    go None is = refl
    go (Some p) is = let e : (p.number == n) ≡ false = unequal p.number n (λ same. ne (sym (numbered m p is) ∙ same)) in rw e refl

pub at_unless : (n : ℕ) (spots : Spots) → Numbered spots → (m : ℕ) → (m ≡ n → ⊥) → unless_spot n (at spots m) ≡ at spots m
at_unless n spots numbered m ne = go (at spots m) refl
  where
    go : (x : Option Spot) → at spots m ≡ x → unless_spot n x ≡ x
    go None is = refl
    go (Some p) is = let e : (p.number == n) ≡ false = unequal p.number n (λ same. ne (sym (numbered m p is) ∙ same)) in rw e refl

pub here_on : (n : ℕ) (f : Spot → Spot) (spots : Spots) → Numbered spots → (p : Spot) → at spots n ≡ Some p → on_spot n f (at spots n) ≡ Some (f p)
here_on n f spots numbered p is = let e : (p.number == n) ≡ true = eq-eqb p.number n (numbered n p is) in rw (is, e) refl

pub here_unless : (n : ℕ) (spots : Spots) → Numbered spots → unless_spot n (at spots n) ≡ None
here_unless n spots numbered = go (at spots n) refl
  where
    go : (x : Option Spot) → at spots n ≡ x → unless_spot n x ≡ None
    go None is = refl
    go (Some p) is = let e : (p.number == n) ≡ true = eq-eqb p.number n (numbered n p is) in rw e refl

-- nothing changes where nothing is at the number
pub none_on : (n : ℕ) (f : Spot → Spot) (spots : Spots) → Numbered spots → at spots n ≡ None → map (on_spot n f) spots ≡ spots
none_on n f spots numbered none = same_spots _ _ (length-map spots (on_spot n f)) (λ m. at_map (on_spot n f) refl spots m ∙ elim (cases_eq m n) [
  | inl e ↦ (let here : at spots m ≡ None = ap (at spots) e ∙ none in rw here refl)
  | inr ne ↦ at_on n f spots numbered m ne
])

pub none_unless : (n : ℕ) (spots : Spots) → Numbered spots → at spots n ≡ None → map (unless_spot n) spots ≡ spots
none_unless n spots numbered none = same_spots _ _ (length-map spots (unless_spot n)) (λ m. at_map (unless_spot n) refl spots m ∙ elim (cases_eq m n) [
  | inl e ↦ (let here : at spots m ≡ None = ap (at spots) e ∙ none in rw here refl)
  | inr ne ↦ at_unless n spots numbered m ne
])

-- an item that is put at a number
pub at_put_same : (spots : Spots) (n : ℕ) (x : Option Spot) → 0 < n → n ≤ length spots → at (slice_set spots (n - 1) x) n ≡ x
at_put_same spots zero x pos le = absurd (omega arith)
at_put_same spots (suc k) x pos le = let e : suc k - 1 ≡ k = omega arith in subst (λ (j : ℕ). slice_index_or (slice_set spots j x) k None ≡ x) (sym e) (get_or-set_same spots k x None (omega arith))

pub at_put_other : (spots : Spots) (n m : ℕ) (x : Option Spot) → 0 < n → (m ≡ n → ⊥) → at (slice_set spots (n - 1) x) m ≡ at spots m
at_put_other spots n zero x pos ne = refl
at_put_other spots n (suc k) x pos ne = get_or-set_other spots (n - 1) k x None (λ same. ne (omega arith))

pub numbered_unless : (spots : Spots) (n : ℕ) → Numbered spots → Numbered (map (unless_spot n) spots)
numbered_unless spots n numbered m q is = elim (cases_eq m n) [
  | inl e ↦ absurd (let x : None ≡ Some q = sym (here_unless n spots numbered) ∙ (sym (at_map (unless_spot n) refl spots n) ∙ (ap (at (map (unless_spot n) spots)) (sym e) ∙ is)) in cc)
  | inr ne ↦ numbered m q (sym (at_unless n spots numbered m ne) ∙ (sym (at_map (unless_spot n) refl spots m) ∙ is))
]

-- taking out, as a write
pub taken : (spots : Spots) (n : ℕ) → 0 < n → n ≤ length spots → Numbered spots → slice_set spots (n - 1) None ≡ map (unless_spot n) spots
taken spots n pos le numbered = same_spots _ _ (length-set spots (n - 1) None ∙ sym (length-map spots (unless_spot n))) (λ m. elim (cases_eq m n) [
  | inl e ↦ rw e (at_put_same spots n None pos le ∙ sym (at_map (unless_spot n) refl spots n ∙ here_unless n spots numbered))
  | inr ne ↦ at_put_other spots n m None pos ne ∙ sym (at_map (unless_spot n) refl spots m ∙ at_unless n spots numbered m ne)
])

pub numbered_append : (spots : Spots) (p : Spot) → Numbered spots → p.number ≡ length spots + 1 → Numbered (spots ++ Some p ∷ [])
numbered_append spots p numbered number zero q is = absurd cc
numbered_append spots p numbered number (suc k) q is = elim (cases_lt k (length spots)) [
  | inl lt ↦ numbered (suc k) q (sym (get_or_append_left spots (Some p ∷ []) None k lt) ∙ is)
  | inr le ↦ elim (cases_eq k (length spots)) [
    | inl e ↦ (
        let here : slice_index_or (spots ++ Some p ∷ []) k None ≡ Some p = subst (λ (j : ℕ). slice_index_or (spots ++ Some p ∷ []) j None ≡ Some p) (sym e) (get_or-append_seam spots (Some p) [] None) in
        let x : p ≡ q = same_some (sym here ∙ is) in
        let y : q.number ≡ p.number = ap (λ (r : Spot). r.number) (sym x) in omega arith)
    | inr ne ↦ absurd (let l = length-append spots (Some p ∷ []) in let x : None ≡ Some q = sym (get_or_past (spots ++ Some p ∷ []) k None (omega arith)) ∙ is in cc)
  ]
]

pub all_over : (values cells : List ℕ) → length values ≡ length cells → overwritten 0 values cells ≡ values
all_over values cells same = let e : drop (0 + length values) cells ≡ [] = drop_all (0 + length values) cells (omega arith) in rw e (append-nil values)
