-- The numbers up to a bound that pass a test.
use Rattle.std.specs.List.{flat_map, range_with_len}
use Rattle.machine_laws.specs.Ledger.{sum_to}
use Rattle.std.proofs.Common.{filter, ap, append_assoc, ◌+◌, ◌≡◌, ℕ, zero, suc, ◌<◌, ◌≤◌, ◌==◌, Bool, true, false, cond, ◌||◌, List, [], ◌∷◌, ◌++◌, refl, sym, ◌∙◌, arith, inl, inr}
use Rattle.std.proofs.lemmas.Bool.{cases_eq, cases_Bool, eq-eqb, ne_eqb, both_ways, cases_lt}
use Rattle.std.proofs.Math.Bool.{or-false}
use Rattle.machine_defs.specs.Loans.{count}
use Rattle.machine_defs.specs.Arguments.{has}
use Rattle.machine_laws.specs.Ledger.{passing}
use Rattle.machine_laws.proofs.Counts.{none_counted}
use Rattle.machine_laws.proofs.Counting.{count_append}

pub passing_same : (f g : ℕ → Bool) (n : ℕ) → ((o : ℕ) → 0 < o → o ≤ n → f o ≡ g o) → passing f n ≡ passing g n
passing_same f g zero same = refl
passing_same f g (suc n) same = rw (passing_same f g n (λ o pos le. same o pos (omega arith)), same (suc n) (omega arith) (omega arith)) refl

pub has_append : (o : ℕ) (xs ys : List ℕ) → has (xs ++ ys) o ≡ (has xs o || has ys o)
has_append o [] ys = refl
has_append o (x ∷ xs) ys = elim (cases_Bool (x == o)) [
  | inl e ↦ rw e refl
  | inr e ↦ rw e (has_append o xs ys)
]

pub has_passing_above : (f : ℕ → Bool) (n o : ℕ) → n < o → has (passing f n) o ≡ false
has_passing_above f zero o lt = refl
has_passing_above f (suc n) o lt = rw (has_append o (passing f n) (cond (f (suc n)) (suc n ∷ []) []), has_passing_above f n o (omega arith)) (elim (cases_Bool (f (suc n))) [
  | inl e ↦ rw (e, ne_eqb (suc n) o (λ is. omega arith)) refl
  | inr e ↦ rw e refl
])

pub has_passing : (f : ℕ → Bool) (n o : ℕ) → 0 < o → o ≤ n → has (passing f n) o ≡ f o
has_passing f zero o pos le = absurd (omega arith)
has_passing f (suc n) o pos le = rw (has_append o (passing f n) (cond (f (suc n)) (suc n ∷ []) [])) (elim (cases_eq o (suc n)) [
  | inl is ↦ rw (is, has_passing_above f n (suc n) (omega arith)) (elim (cases_Bool (f (suc n))) [
    | inl e ↦ rw (e, eq-eqb (suc n) (suc n) refl) refl
    | inr e ↦ rw e refl
  ])
  | inr ne ↦ rw (has_passing f n o pos (omega arith)) (elim (cases_Bool (f (suc n))) [
    | inl e ↦ rw (e, ne_eqb (suc n) o (λ is. ne (sym is))) (or-false (f o))
    | inr e ↦ rw e (or-false (f o))
  ])
])

pub passing_some : (f : ℕ → Bool) (n : ℕ) → has (passing f n) 0 ≡ false
passing_some f zero = refl
passing_some f (suc n) = rw (has_append 0 (passing f n) (cond (f (suc n)) (suc n ∷ []) []), passing_some f n) (elim (cases_Bool (f (suc n))) [
  | inl e ↦ rw (e, ne_eqb (suc n) 0 (λ is. omega arith)) refl
  | inr e ↦ rw e refl
])

-- a number that is listed passes and is within the bound
pub passing_only : (f : ℕ → Bool) (n o : ℕ) → has (passing f n) o ≡ true → (0 < o) × (o ≤ n) × (f o ≡ true)
passing_only f n o is = elim (cases_eq o 0) [
  | inl none ↦ absurd (both_ways (has (passing f n) 0) (passing_some f n) (rw none at is))
  | inr some ↦ elim (cases_lt n o) [
    | inl high ↦ absurd (both_ways (has (passing f n) o) (has_passing_above f n o high) is)
    | inr low ↦ (omega arith, low, sym (has_passing f n o (omega arith) low) ∙ is)
  ]
]

pub passing_once : (f : ℕ → Bool) (n o : ℕ) → count o (passing f n) ≤ 1
passing_once f zero o = omega arith
passing_once f (suc n) o =
    let split = count_append o (passing f n) (cond (f (suc n)) (suc n ∷ []) []) in
    let below = passing_once f n o in
    elim (cases_Bool (f (suc n))) [
      | inl e ↦ rw e (elim (cases_eq (suc n) o) [
        | inl is ↦ (
            let none = none_counted (passing f n) o (has_passing_above f n o (omega arith)) in
            let split' = count_append o (passing f n) (suc n ∷ []) in
            rw (split', eq-eqb (suc n) o is) (omega arith))
        | inr ne ↦ (let split' = count_append o (passing f n) (suc n ∷ []) in rw (split', ne_eqb (suc n) o ne) (omega arith))
      ])
      | inr e ↦ rw e (let split' = count_append o (passing f n) [] in rw split' (omega arith))
    ]

-- they are those of the list of all that pass
pub range_more : (a n : ℕ) → range_with_len a (suc n) ≡ range_with_len a n ++ (a + n) ∷ []
range_more a zero = ap (λ k. k ∷ []) (omega arith)
range_more a (suc n) =
    let e : a + 1 + n ≡ a + suc n = omega arith in
    ap (λ ks. a ∷ ks) (range_more (a + 1) n ∙ ap (λ k. range_with_len (a + 1) n ++ k ∷ []) e)

filter_append : (f : ℕ → Bool) (xs ys : List ℕ) → filter f (xs ++ ys) ≡ filter f xs ++ filter f ys
filter_append f [] ys = refl
filter_append f (x ∷ xs) ys = elim (cases_Bool (f x)) [
  | inl yes' ↦ rw yes' (ap (λ zs. x ∷ zs) (filter_append f xs ys))
  | inr no' ↦ rw no' (filter_append f xs ys)
]

pub passing_listed : (f : ℕ → Bool) (n : ℕ) → passing f n ≡ filter f (range_with_len 1 n)
passing_listed f zero = refl
passing_listed f (suc n) =
    let e : 1 + n ≡ suc n = omega arith in
    ap (λ ks. ks ++ cond (f (suc n)) (suc n ∷ []) []) (passing_listed f n)
    ∙ (sym (filter_append f (range_with_len 1 n) (suc n ∷ [])) ∙ ap (filter f) (ap (λ k. range_with_len 1 n ++ k ∷ []) (sym e) ∙ sym (range_more 1 n)))

-- a count over lists for the numbers up to a bound
flat_append : (h : ℕ → List ℕ) (xs ys : List ℕ) → flat_map h (xs ++ ys) ≡ flat_map h xs ++ flat_map h ys
flat_append h [] ys = refl
flat_append h (x ∷ xs) ys = ap (λ zs. h x ++ zs) (flat_append h xs ys) ∙ sym (append_assoc (h x) (flat_map h xs) (flat_map h ys))

pub count_listed : (o : ℕ) (h : ℕ → List ℕ) (n : ℕ) → count o (flat_map h (range_with_len 1 n)) ≡ sum_to (λ t. count o (h t)) n
count_listed o h zero = refl
count_listed o h (suc n) =
    let e : 1 + n ≡ suc n = omega arith in
    let all' : flat_map h (range_with_len 1 (suc n)) ≡ flat_map h (range_with_len 1 n) ++ (h (suc n) ++ []) = ap (flat_map h) (range_more 1 n ∙ ap (λ k. range_with_len 1 n ++ k ∷ []) e) ∙ flat_append h (range_with_len 1 n) (suc n ∷ []) in
    let deeper = count_listed o h n in
    let one = count_append o (flat_map h (range_with_len 1 n)) (h (suc n) ++ []) in
    let two = count_append o (h (suc n)) [] in
    ap (count o) all' ∙ omega (arith, deeper, one, two)
