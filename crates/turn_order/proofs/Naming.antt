-- The clients that an order names, and the others.
use Rattle.std.proofs.Common.{◌≡◌, ◌∙◌, ◌⊎◌, inl, inr, ℕ, zero, suc, ◌+◌, ◌-◌, ◌<◌, ◌≤◌, ◌≢◌, ◌==◌, ◌||◌, List, [], ◌∷◌, ◌++◌, Bool, true, false, not, cond, filter, length, take, get_or, slice_set, refl, ap, sym, arith, rules, add-one, append_assoc, append-nil}
use Rattle.std.specs.List.{list_any, range_with_len}
use Rattle.std.proofs.lemmas.Bool.Decides.{eqb_tells}
use Rattle.std.proofs.lemmas.List.{get_or-set_same, get_or-set_other, take_more}
use Rattle.std.proofs.lemmas.List.Folds.{list_any-append}
use Rattle.std.proofs.lemmas.List.Elements.{filter-append}
use Rattle.rl_defs.specs.declared.load.LoadRows.{LoadRows}
use Rattle.machine_defs.specs.Runs.{order_of}
use Rattle.turn_order.specs.Rounds.{is_on}

or_true : (b : Bool) → (b || (true || false)) ≡ true
or_true true = refl
or_true false = refl

or_false : (b : Bool) → (b || (false || false)) ≡ b
or_false true = refl
or_false false = refl

pub named_more : (named : List Bool) (order : List ℕ) (i t u : ℕ) → u ≡ get_or order i 0 → i < length order
    → 1 ≤ u → u ≤ length named → 1 ≤ t → is_on named t ≡ list_any (λ v. v == t) (take i order)
    → is_on (slice_set named (u - 1) true) t ≡ list_any (λ v. v == t) (take (i + 1) order)
named_more named order i t u here within low high above so_far =
    let more : take (i + 1) order ≡ take i order ++ u ∷ [] = take_more order i 0 within ∙ ap (λ (v : ℕ). take i order ++ v ∷ []) (sym here) in
    let any : list_any (λ v. v == t) (take (i + 1) order) ≡ (list_any (λ v. v == t) (take i order) || ((u == t) || false)) =
    ap (list_any (λ v. v == t)) more ∙ list_any-append (λ v. v == t) (take i order) (u ∷ []) in
    elim (eqb_tells u t) [
      | inl a ↦
          let same : t - 1 ≡ u - 1 = omega (arith, a.1) in
          let set : get_or (slice_set named (u - 1) true) (u - 1) false ≡ true = get_or-set_same named (u - 1) true false (omega arith) in
          let on : is_on (slice_set named (u - 1) true) t ≡ true = ap (λ (k : ℕ). get_or (slice_set named (u - 1) true) k false) same ∙ set in
          on ∙ sym (any ∙ (ap (λ (b : Bool). list_any (λ v. v == t) (take i order) || (b || false)) a.0 ∙ or_true (list_any (λ v. v == t) (take i order))))
      | inr b ↦
          let apart : u ≢ t = b.1 in
          let other : t - 1 ≢ u - 1 = omega (arith, apart) in
          get_or-set_other named (u - 1) (t - 1) true false other ∙ (so_far
          ∙ sym (any ∙ (ap (λ (b : Bool). list_any (λ v. v == t) (take i order) || (b || false)) b.0 ∙ or_false (list_any (λ v. v == t) (take i order)))))
    ]

range_ends : (a n : ℕ) → range_with_len a (suc n) ≡ range_with_len a n ++ (a + n) ∷ []
range_ends a zero = ap (λ (k : ℕ). k ∷ []) (omega arith)
range_ends a (suc n) =
    let on : a + 1 + n ≡ a + suc n = omega arith in
    ap (λ (r : List ℕ). a ∷ r) (range_ends (a + 1) n ∙ ap (λ (k : ℕ). range_with_len (a + 1) n ++ k ∷ []) on)

pub range_more : (a n : ℕ) → range_with_len a (n + 1) ≡ range_with_len a n ++ (a + n) ∷ []
range_more a n = rw add-one (range_ends a n)

pub filter_more : (test : ℕ → Bool) (a n k : ℕ) → a + n ≡ k
    → filter test (range_with_len a (n + 1)) ≡ filter test (range_with_len a n) ++ cond (test k) (k ∷ []) []
filter_more test a n k is =
    ap (filter test) (range_more a n) ∙ (filter-append test (range_with_len a n) ((a + n) ∷ [])
    ∙ ap (λ (j : ℕ). filter test (range_with_len a n) ++ cond (test j) (j ∷ []) []) is)

pub filter_alike : (p q : ℕ → Bool) (a n : ℕ) → ((t : ℕ) → a ≤ t → t < a + n → p t ≡ q t)
    → filter p (range_with_len a n) ≡ filter q (range_with_len a n)
filter_alike p q a zero alike = refl
filter_alike p q a (suc n) alike =
    let first : p a ≡ q a = alike a (omega arith) (omega arith) in
    let rest : filter p (range_with_len (a + 1) n) ≡ filter q (range_with_len (a + 1) n) =
    filter_alike p q (a + 1) n (λ t low high. alike t (omega (arith, low)) (omega (arith, high))) in
    rw (first, rest) refl

-- the order list, from the clients that its order names
pub order_is : (L : LoadRows) (named : List Bool) (order again old first last : List ℕ) (count : ℕ)
    → order ≡ L.order → again ≡ L.order → count ≡ length L.clients → length L.clients ≤ 16
    → ((t : ℕ) → 1 ≤ t → t ≤ 16 → is_on named t ≡ list_any (λ u. u == t) order)
    → old ≡ [] → first ≡ old ++ again
    → last ≡ first ++ filter (λ t. not (is_on named t)) (range_with_len 1 count) → last ≡ order_of L
order_is L named order again old first last count same same_again many few names none begins ends =
    let told : (t : ℕ) → 1 ≤ t → t < 1 + count → not (is_on named t) ≡ not (list_any (λ u. u == t) L.order) =
    λ (t : ℕ) (low : 1 ≤ t) (high : t < 1 + count).
    ap not (names t low (omega (arith, high)) ∙ ap (λ (xs : List ℕ). list_any (λ u. u == t) xs) same) in
    let others : filter (λ t. not (is_on named t)) (range_with_len 1 count) ≡ filter (λ t. not (list_any (λ u. u == t) L.order)) (range_with_len 1 count) =
    filter_alike (λ t. not (is_on named t)) (λ t. not (list_any (λ u. u == t) L.order)) 1 count told in
    let named_first : first ≡ L.order = begins ∙ (ap (λ (xs : List ℕ). xs ++ again) none ∙ same_again) in
    ends ∙ (ap (λ (xs : List ℕ). xs ++ filter (λ t. not (is_on named t)) (range_with_len 1 count)) named_first
    ∙ (ap (λ (xs : List ℕ). L.order ++ xs) others
    ∙ ap (λ (n : ℕ). L.order ++ filter (λ t. not (list_any (λ u. u == t) L.order)) (range_with_len 1 n)) many))

-- one more client is put last where it isn't named, and else is left out
pub put_more : (named : List Bool) (old now : List ℕ) (place : ℕ) → get_or named place false ≡ false
    → now ≡ old ++ filter (λ t. not (is_on named t)) (range_with_len 1 place)
    → now ++ (place + 1) ∷ [] ≡ old ++ filter (λ t. not (is_on named t)) (range_with_len 1 (place + 1))
put_more named old now place off so_far =
    let number : 1 + place ≡ place + 1 = omega arith in
    let at : place + 1 - 1 ≡ place = omega arith in
    let kept : cond (not (is_on named (place + 1))) ((place + 1) ∷ []) [] ≡ (place + 1) ∷ [] =
    ap (λ (b : Bool). cond (not b) ((place + 1) ∷ []) []) (ap (λ (k : ℕ). get_or named k false) at ∙ off) in
    let more : filter (λ t. not (is_on named t)) (range_with_len 1 (place + 1)) ≡ filter (λ t. not (is_on named t)) (range_with_len 1 place) ++ (place + 1) ∷ [] =
    filter_more (λ t. not (is_on named t)) 1 place (place + 1) number ∙ ap (λ (xs : List ℕ). filter (λ t. not (is_on named t)) (range_with_len 1 place) ++ xs) kept in
    ap (λ (xs : List ℕ). xs ++ (place + 1) ∷ []) so_far ∙ (append_assoc old (filter (λ t. not (is_on named t)) (range_with_len 1 place)) ((place + 1) ∷ [])
    ∙ ap (λ (xs : List ℕ). old ++ xs) (sym more))

pub leave_out : (named : List Bool) (old now : List ℕ) (place : ℕ) → get_or named place false ≡ true
    → now ≡ old ++ filter (λ t. not (is_on named t)) (range_with_len 1 place)
    → now ≡ old ++ filter (λ t. not (is_on named t)) (range_with_len 1 (place + 1))
leave_out named old now place on so_far =
    let number : 1 + place ≡ place + 1 = omega arith in
    let at : place + 1 - 1 ≡ place = omega arith in
    let kept : cond (not (is_on named (place + 1))) ((place + 1) ∷ []) [] ≡ [] =
    ap (λ (b : Bool). cond (not b) ((place + 1) ∷ []) []) (ap (λ (k : ℕ). get_or named k false) at ∙ on) in
    let more : filter (λ t. not (is_on named t)) (range_with_len 1 (place + 1)) ≡ filter (λ t. not (is_on named t)) (range_with_len 1 place) =
    filter_more (λ t. not (is_on named t)) 1 place (place + 1) number
    ∙ (ap (λ (xs : List ℕ). filter (λ t. not (is_on named t)) (range_with_len 1 place) ++ xs) kept ∙ append-nil (filter (λ t. not (is_on named t)) (range_with_len 1 place))) in
    so_far ∙ ap (λ (xs : List ℕ). old ++ xs) (sym more)
