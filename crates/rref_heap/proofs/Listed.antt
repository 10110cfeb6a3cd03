-- Lists of numbers that rise or fall: equal where they have the same members; what is sorted is listed still.
use Rattle.std.proofs.Common.{◌≡◌, ℕ, ◌<◌, ◌≤◌, ◌==◌, ◌||◌, ◌++◌, if◌then◌else◌, Bool, true, false, List, [], ◌∷◌, refl, sym, ap, ◌∙◌, arith, inl, inr}
use Rattle.std.specs.Prelude.{IsPermutation}
use Rattle.std.specs.List.{sum_by}
use Rattle.std.proofs.lemmas.Bool.{cases_eq, cases_Bool, eq-eqb}
use Rattle.std.proofs.lemmas.List.Sums.{sum_by-cons}
use Rattle.std.proofs.lemmas.List.Sorted.{sum_by-IsPermutation}
use Rattle.machine_defs.specs.Arguments.{has}
use Rattle.rref_heap.specs.Listing.{Falls}
use Rattle.rref_heap.specs.Store.{Distinct}
use Rattle.rref_heap.proofs.Spots.{unequal}
use Rattle.rref_heap.proofs.Leavers.{has_push, not_head, in_head}

-- each number is greater than the one before it, the first one greater than n
abbrev pub Rises : ℕ → List ℕ → Type 0
Rises n [] = Unit {0}
Rises n (x ∷ xs) = (n < x) × Rises x xs

pub rises_above : (n : ℕ) (xs : List ℕ) → Rises n xs → (k : ℕ) → has xs k ≡ true → n < k
rises_above n [] r k h = absurd cc
rises_above n (x ∷ xs) r k h = elim (cases_eq x k) [
  | inl e ↦ (let lt = r.0 in omega arith)
  | inr ne ↦ (let lt = r.0 in let more = rises_above x xs r.1 k (rw (unequal x k ne) at h) in omega arith)
]

pub none_at_or_below : (n : ℕ) (xs : List ℕ) → Rises n xs → (k : ℕ) → k ≤ n → has xs k ≡ false
none_at_or_below n xs r k le = elim (cases_Bool (has xs k)) [
  | inl h ↦ absurd (let lt = rises_above n xs r k h in omega arith)
  | inr e ↦ e
]

pub has_head : (x : ℕ) (xs : List ℕ) (k : ℕ) → x ≡ k → has (x ∷ xs) k ≡ true
has_head x xs k e = rw (eq-eqb x k e) refl

pub has_behind : (x : ℕ) (xs : List ℕ) (k : ℕ) → (x ≡ k → ⊥) → has (x ∷ xs) k ≡ has xs k
has_behind x xs k ne = rw (unequal x k ne) refl

clash : (b : Bool) → b ≡ true → b ≡ false → ⊥
clash true e f = cc
clash false e f = cc

-- the first of a rising list is its least
pub least : (n x : ℕ) (xs : List ℕ) → Rises n (x ∷ xs) → (k : ℕ) → has (x ∷ xs) k ≡ true → x ≤ k
least n x xs r k h = elim (cases_eq x k) [
  | inl e ↦ omega arith
  | inr ne ↦ (let lt = rises_above x xs r.1 k (sym (has_behind x xs k ne) ∙ h) in omega arith)
]

-- Two rising lists with the same members are equal.
pub same_rising : (n m : ℕ) (xs ys : List ℕ) → Rises n xs → Rises m ys → ((k : ℕ) → has xs k ≡ has ys k) → xs ≡ ys
same_rising n m [] [] r s same = refl
same_rising n m [] (y ∷ ys) r s same = absurd (let e : false ≡ true = same y ∙ in_head y ys in cc)
same_rising n m (x ∷ xs) [] r s same = absurd (let e : true ≡ false = sym (in_head x xs) ∙ same x in cc)
same_rising n m (x ∷ xs) (y ∷ ys) r s same =
    let a : y ≤ x = least m y ys s x (sym (same x) ∙ in_head x xs) in
    let b : x ≤ y = least n x xs r y (same y ∙ in_head y ys) in
    let e : x ≡ y = omega arith in
    let rest : xs ≡ ys = same_rising x y xs ys r.1 s.1 (λ k. elim (cases_eq x k) [
      | inl is ↦ none_at_or_below x xs r.1 k (omega arith) ∙ sym (none_at_or_below y ys s.1 k (omega arith))
      | inr ne ↦ sym (has_behind x xs k ne) ∙ (same k ∙ has_behind y ys k (λ z. ne (e ∙ z)))
    ]) in
    rw (e, rest) refl

-- a rising list whose numbers are all greater than o
pub rises_from : (n o : ℕ) (xs : List ℕ) → Rises n xs → ((k : ℕ) → has xs k ≡ true → o < k) → Rises o xs
rises_from n o [] r above = tt
rises_from n o (x ∷ xs) r above = (above x (in_head x xs), r.1)

pub rises_down : (n m : ℕ) (xs : List ℕ) → n ≤ m → Rises m xs → Rises n xs
rises_down n m [] le r = tt
rises_down n m (x ∷ xs) le r = (let lt = r.0 in omega arith, r.1)

-- a list with one more at its end
or_true : (b : Bool) → (b || true) ≡ true
or_true true = refl
or_true false = refl

or_false : (b : Bool) → (b || false) ≡ b
or_false true = refl
or_false false = refl

pub has_pushed : (xs : List ℕ) (o k : ℕ) → o ≡ k → has (xs ++ o ∷ []) k ≡ true
has_pushed xs o k e = has_push xs o k ∙ (ap (λ (b : Bool). has xs k || b) (eq-eqb o k e) ∙ or_true (has xs k))

pub has_unpushed : (xs : List ℕ) (o k : ℕ) → (o ≡ k → ⊥) → has (xs ++ o ∷ []) k ≡ has xs k
has_unpushed xs o k ne = has_push xs o k ∙ (ap (λ (b : Bool). has xs k || b) (unequal o k ne) ∙ or_false (has xs k))

-- what holds of the last of a list that falls, where no number stands twice
pub falls_tail : (x : ℕ) (xs : List ℕ) → Falls (x ∷ xs) → Falls xs
falls_tail x [] f = tt
falls_tail x (y ∷ ys) f = f.1

pub falls_last : (o : ℕ) (xs : List ℕ) → Falls (xs ++ o ∷ []) → (k : ℕ) → has xs k ≡ true → o ≤ k
falls_last o [] f k h = absurd cc
falls_last o (x ∷ []) f k h = elim (cases_eq x k) [
  | inl e ↦ (let le = f.0 in omega arith)
  | inr ne ↦ absurd (let no' : false ≡ true = sym (has_behind x [] k ne) ∙ h in cc)
]
falls_last o (x ∷ (y ∷ ys)) f k h = elim (cases_eq x k) [
  | inl e ↦ (let le = f.0 in let more = falls_last o (y ∷ ys) f.1 y (in_head y ys) in omega arith)
  | inr ne ↦ falls_last o (y ∷ ys) f.1 k (sym (has_behind x (y ∷ ys) k ne) ∙ h)
]

pub falls_before : (o : ℕ) (xs : List ℕ) → Falls (xs ++ o ∷ []) → Falls xs
falls_before o [] f = tt
falls_before o (x ∷ []) f = tt
falls_before o (x ∷ (y ∷ ys)) f = (f.0, falls_before o (y ∷ ys) f.1)

or_parts : (a b : Bool) → (a || b) ≡ false → (a ≡ false) × (b ≡ false)
or_parts true b e = absurd cc
or_parts false b e = (refl, e)

pub distinct_before : (o : ℕ) (xs : List ℕ) → Distinct (xs ++ o ∷ []) → Distinct xs × (has xs o ≡ false)
distinct_before o [] d = (tt, refl)
distinct_before o (x ∷ xs) d =
    let rest = distinct_before o xs d.1 in
    let p = or_parts (has xs x) (o == x) (sym (has_push xs o x) ∙ d.0) in
    let ne : x ≡ o → ⊥ = λ e. clash (o == x) (eq-eqb o x (sym e)) p.1 in
    ((p.0, rest.0), has_behind x xs o ne ∙ rest.1)

-- how often a number stands in a list
abbrev pub one_if : ℕ → ℕ → ℕ
one_if k x = if x == k then 1 else 0

one_here : (k x : ℕ) → x ≡ k → one_if k x ≡ 1
one_here k x e = rw (eq-eqb x k e) refl

one_other : (k x : ℕ) → (x ≡ k → ⊥) → one_if k x ≡ 0
one_other k x ne = rw (unequal x k ne) refl

never : (xs : List ℕ) (k : ℕ) → has xs k ≡ false → sum_by (one_if k) xs ≡ 0
never [] k e = refl
never (x ∷ xs) k e =
    let r = not_head x xs k e in
    let c = sum_by-cons (one_if k) x xs in
    let rest = never xs k r.1 in
    let here = one_other k x r.0 in
    omega arith

once_at_most : (xs : List ℕ) → Distinct xs → (k : ℕ) → sum_by (one_if k) xs ≤ 1
once_at_most [] d k = omega arith
once_at_most (x ∷ xs) d k =
    let c = sum_by-cons (one_if k) x xs in
    elim (cases_eq x k) [
      | inl e ↦ (let rest = never xs k (ap (has xs) (sym e) ∙ d.0) in let here = one_here k x e in omega arith)
      | inr ne ↦ (let rest = once_at_most xs d.1 k in let here = one_other k x ne in omega arith)
    ]

absent : (xs : List ℕ) (k : ℕ) → sum_by (one_if k) xs ≡ 0 → has xs k ≡ false
absent [] k e = refl
absent (x ∷ xs) k e =
    let c = sum_by-cons (one_if k) x xs in
    elim (cases_eq x k) [
      | inl is ↦ absurd (let here = one_here k x is in omega arith)
      | inr ne ↦ (let here = one_other k x ne in has_behind x xs k ne ∙ absent xs k (omega arith))
    ]

distinct_from : (xs : List ℕ) → ((k : ℕ) → sum_by (one_if k) xs ≤ 1) → Distinct xs
distinct_from [] few = tt
distinct_from (x ∷ xs) few =
    let out : has xs x ≡ false = absent xs x (let c = sum_by-cons (one_if x) x xs in let here = one_here x x refl in let f = few x in omega arith) in
    (out, distinct_from xs (λ k. (let c = sum_by-cons (one_if k) x xs in let f = few k in omega arith)))

pub distinct_sorted : (xs ys : List ℕ) → IsPermutation xs ys → Distinct xs → Distinct ys
distinct_sorted xs ys same d = distinct_from ys (λ k. (let s = sum_by-IsPermutation (one_if k) xs ys same in let o = once_at_most xs d k in omega arith))
