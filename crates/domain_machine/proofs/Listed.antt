-- Each client stands on the order list, and nobody else.
use Rattle.std.proofs.Common.{◌≡◌, ◌∙◌, inl, inr, ℕ, zero, suc, ◌+◌, ◌%◌, ◌<◌, ◌≤◌, ◌==◌, ◌||◌, List, [], ◌∷◌, ◌++◌, Bool, true, false, not, filter, length, take, drop, get_or, refl, ap, sym, subst, arith}
use Rattle.std.specs.List.{All, list_any, range_with_len}
use Rattle.std.proofs.Math.Nat.{mod-lt}
use Rattle.std.proofs.lemmas.Bool.Decides.{eqb_tells}
use Rattle.std.proofs.lemmas.List.{get_or_append_left, get_or-append-add, length-append, take-append-drop}
use Rattle.std.proofs.lemmas.List.Elements.{All-append, All-filter}
use Rattle.std.proofs.lemmas.List.Folds.{list_any-append, list_any_at}
use Rattle.std.proofs.lemmas.List.FromFn.{length-range_with_len, get_or-range_with_len}
use Rattle.std.proofs.lemmas.Map.Views.{any-filter_same}
use Rattle.rl_defs.specs.declared.load.LoadRows.{LoadRows}
use Rattle.rl_defs.specs.Valid.{Valid}
use Rattle.machine_defs.specs.Runs.{order_of}
use Rattle.turn_order.specs.Rounds.{round_from}
use Rattle.turn_order.proofs.Going.{round_get}

-- the numbers of so many clients
abbrev pub IsNumber : ℕ → ℕ → Type 0
IsNumber n t = (0 < t) × (t ≤ n)

range_numbers : (n : ℕ) → All (IsNumber n) (range_with_len 1 n)
range_numbers n i d lt =
    let many : length (range_with_len 1 n) ≡ n = length-range_with_len 1 n in
    let is : get_or (range_with_len 1 n) i d ≡ 1 + i = get_or-range_with_len 1 n i d (omega (arith, lt, many)) in
    (omega (arith, is), omega (arith, is, lt, many))

-- whoever stands on the list is a client
pub list_numbers : (L : LoadRows) → Valid L → All (IsNumber (length L.clients)) (order_of L)
list_numbers L valid =
    let named : All (IsNumber (length L.clients)) L.order = λ i d lt. let n = valid.order i d lt in (omega (arith, n.0), n.1) in
    let P : ℕ → Type 0 = IsNumber (length L.clients) in
    let others : List ℕ = filter (λ t. not (list_any (λ u. u == t) L.order)) (range_with_len 1 (length L.clients)) in
    All-append P L.order others named
    (All-filter (λ t. not (list_any (λ u. u == t) L.order)) P (range_with_len 1 (length L.clients)) (range_numbers (length L.clients)))

-- what holds of each holds of who stands so far round
pub all_round : {A : Type 0} (P : A → Type 0) (xs : List A) (p k : ℕ) (d : A) → p ≤ length xs → k < length xs → All P xs → P (get_or (round_from xs p) k d)
all_round P xs p k d within near all =
    subst P (sym (round_get xs p k d within near)) (all ((p + k) % length xs) d (mod-lt (p + k) (omega (arith, near))))

-- what holds of each of two lists, one behind the other
all_left : {A : Type 0} (P : A → Type 0) (xs ys : List A) → All P (xs ++ ys) → All P xs
all_left P xs ys all i d lt =
    let many : length (xs ++ ys) ≡ length xs + length ys = length-append xs ys in
    subst P (get_or_append_left xs ys d i lt) (all i d (omega (arith, many, lt)))

all_right : {A : Type 0} (P : A → Type 0) (xs ys : List A) → All P (xs ++ ys) → All P ys
all_right P xs ys all i d lt =
    let many : length (xs ++ ys) ≡ length xs + length ys = length-append xs ys in
    subst P (get_or-append-add xs ys i d) (all (length xs + i) d (omega (arith, many, lt)))

-- what holds of each in going round holds of each
pub round_all : {A : Type 0} (P : A → Type 0) (xs : List A) (p : ℕ) → All P (round_from xs p) → All P xs
round_all {A} P xs p all =
    let Q : List A → Type 0 = λ ys. All P ys in
    subst Q (take-append-drop p xs)
    (All-append P (take p xs) (drop p xs) (all_right P (drop p xs) (take p xs) all) (all_left P (drop p xs) (take p xs) all))

-- who is found on a list of which a fact holds
found_has : (P : ℕ → Type 0) (t : ℕ) (xs : List ℕ) → All P xs → list_any (λ u. u == t) xs ≡ true → P t
found_has P t [] all is = absurd cc
found_has P t (x ∷ xs) all is = elim (eqb_tells x t) [
  | inl a ↦ subst P a.1 (all 0 x (omega arith))
  | inr b ↦
      found_has P t xs (λ k d lt. all (suc k) d (omega (arith, lt)))
      (sym (ap (λ (c : Bool). c || list_any (λ u. u == t) xs) b.0) ∙ is)
]

in_range : (n t : ℕ) → IsNumber n t → list_any (λ u. u == t) (range_with_len 1 n) ≡ true
in_range n (suc i) number =
    let many : length (range_with_len 1 n) ≡ n = length-range_with_len 1 n in
    let high : suc i ≤ n = number.1 in
    let is : get_or (range_with_len 1 n) i 0 ≡ 1 + i = get_or-range_with_len 1 n i 0 (omega (arith, high)) in
    let same : get_or (range_with_len 1 n) i 0 ≡ suc i = omega (arith, is) in
    list_any_at (λ u. u == suc i) (range_with_len 1 n) i 0 (omega (arith, many, high)) (equal (get_or (range_with_len 1 n) i 0) (suc i) same)
  where
    equal : (a b : ℕ) → a ≡ b → (a == b) ≡ true
    equal a b is = elim (eqb_tells a b) [ inl e ↦ e.0 | inr e ↦ absurd (e.1 is) ]
in_range n zero number = absurd (omega (arith, number.0))

-- each client is found on the list
pub client_listed : (L : LoadRows) (t : ℕ) → IsNumber (length L.clients) t → list_any (λ u. u == t) (order_of L) ≡ true
client_listed L t number =
    list_any-append (λ u. u == t) L.order others ∙ go (list_any (λ u. u == t) L.order) refl
  where
    others : List ℕ
    others = filter (λ u. not (list_any (λ v. v == u) L.order)) (range_with_len 1 (length L.clients))

    alike : (u : ℕ) → (u == t) ≡ true → list_any (λ v. v == t) L.order ≡ false → not (list_any (λ v. v == u) L.order) ≡ true
    alike u is none = elim (eqb_tells u t) [
      | inl e ↦ ap (λ (w : ℕ). not (list_any (λ v. v == w) L.order)) e.1 ∙ ap not none
      | inr e ↦ absurd cc
    ]

    go : (b : Bool) → list_any (λ u. u == t) L.order ≡ b → (list_any (λ u. u == t) L.order || list_any (λ u. u == t) others) ≡ true
    go true is = ap (λ (b : Bool). b || list_any (λ u. u == t) others) is
    go false is =
        ap (λ (b : Bool). b || list_any (λ u. u == t) others) is
        ∙ (any-filter_same (λ u. u == t) (λ u. not (list_any (λ v. v == u) L.order)) true (λ u same. alike u same is) (range_with_len 1 (length L.clients))
        ∙ in_range (length L.clients) t number)

-- so what holds of each in going round the list holds of each client
pub client_has : (L : LoadRows) (P : ℕ → Type 0) (p t : ℕ) → IsNumber (length L.clients) t → All P (round_from (order_of L) p) → P t
client_has L P p t number all = found_has P t (order_of L) (round_all P (order_of L) p all) (client_listed L t number)
