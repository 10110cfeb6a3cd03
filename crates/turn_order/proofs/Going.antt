-- Going round a list.
use Rattle.std.proofs.Common.{◌≡◌, ◌∙◌, ◌⊎◌, inl, inr, ℕ, ◌+◌, ◌-◌, ◌%◌, ◌<◌, ◌≤◌, List, ◌++◌, Option, Some, None, Bool, true, false, length, take, drop, get_or, nat_lt, refl, ap, sym, arith, rules}
use Rattle.std.specs.Option.{IfSome}
use Rattle.std.proofs.lemmas.Bool.{cases_lt}
use Rattle.std.specs.List.{position, position_or_len}
use Rattle.std.proofs.Math.Nat.{add-mod_left, mod-eq_of_lt}
use Rattle.std.proofs.lemmas.List.{get_or-drop, get_or-take, get_or_append_left, get_or_default, get_or-append-add, length-append, length-drop, length-take-le}
use Rattle.std.proofs.lemmas.List.Sums.{position_or_len_is}
use Rattle.turn_order.specs.Rounds.{round_from, place_round, is_on, next_place}

pub length-round : {A : Type 0} (xs : List A) (p : ℕ) → p ≤ length xs → length (round_from xs p) ≡ length xs
length-round xs p within =
    let both : length (drop p xs ++ take p xs) ≡ length (drop p xs) + length (take p xs) = length-append (drop p xs) (take p xs) in
    let behind : length (drop p xs) ≡ length xs - p = length-drop p xs in
    let before : length (take p xs) ≡ p = length-take-le p xs within in
    omega arith

-- what stands k places on
pub round_get : {A : Type 0} (xs : List A) (p k : ℕ) (d : A) → p ≤ length xs → k < length xs
    → get_or (round_from xs p) k d ≡ get_or xs ((p + k) % length xs) d
round_get xs p k d within near =
    let behind : length (drop p xs) ≡ length xs - p = length-drop p xs in
    elim (cases_lt k (length xs - p)) [
      | inl a ↦
          let inside : k < length (drop p xs) = omega arith in
          let on : (p + k) % length xs ≡ p + k = mod-eq_of_lt (omega arith) in
          get_or_append_left (drop p xs) (take p xs) d k inside ∙ (get_or-drop p xs k d ∙ ap (λ (i : ℕ). get_or xs i d) (sym on))
      | inr b ↦
          let j : ℕ = k - (length xs - p) in
          let far : k ≡ length (drop p xs) + j = omega arith in
          let low : j < p = omega arith in
          let all : p + k ≡ length xs + j = omega arith in
          let on : (p + k) % length xs ≡ j = ap (λ (i : ℕ). i % length xs) all ∙ (add-mod_left (length xs) j ∙ mod-eq_of_lt (omega arith)) in
          ap (λ (i : ℕ). get_or (round_from xs p) i d) far ∙ (get_or-append-add (drop p xs) (take p xs) j d
          ∙ (get_or-take p xs j d low ∙ ap (λ (i : ℕ). get_or xs i d) (sym on)))
    ]

-- the first that passes
pub position_is : {A : Type 0} (test : A → Bool) (xs : List A) (k : ℕ) (d : A) → k < length xs → test (get_or xs k d) ≡ true
    → ((i : ℕ) → i < k → test (get_or xs i d) ≡ false) → position test xs ≡ Some k
position_is test xs k d within here before =
    let first : position_or_len test xs ≡ k = position_or_len_is test xs k d (omega arith) before (λ _. here) in
    let there : nat_lt k (length xs) ≡ true = search rules in
    rw (first, there) refl

pub position_none : {A : Type 0} (test : A → Bool) (xs : List A) (d : A)
    → ((i : ℕ) → i < length xs → test (get_or xs i d) ≡ false) → position test xs ≡ None
position_none test xs d before =
    let first : position_or_len test xs ≡ length xs =
    position_or_len_is test xs (length xs) d (omega arith) before (λ (h : length xs < length xs). absurd (omega (arith, h))) in
    let there : nat_lt (length xs) (length xs) ≡ false = search rules in
    rw (first, there) refl

-- the first place whose client is enabled, by how far round it is
pub next_is : (order : List ℕ) (enabled : List Bool) (from step at : ℕ) → from ≤ length order → step < length order
    → at ≡ (from + step) % length order → is_on enabled (get_or order at 0) ≡ true
    → ((k : ℕ) → k < step → is_on enabled (get_or order ((from + k) % length order) 0) ≡ false)
    → Some at ≡ next_place order enabled from
next_is order enabled from step at within near is here before =
    let all : length (round_from order from) ≡ length order = length-round order from within in
    let there : is_on enabled (get_or (round_from order from) step 0) ≡ true =
    ap (is_on enabled) (round_get order from step 0 within near ∙ ap (λ (i : ℕ). get_or order i 0) (sym is)) ∙ here in
    let earlier : (i : ℕ) → i < step → is_on enabled (get_or (round_from order from) i 0) ≡ false =
    λ i below. ap (is_on enabled) (round_get order from i 0 within (omega (arith, below))) ∙ before i below in
    let first : position (is_on enabled) (round_from order from) ≡ Some step =
    position_is (is_on enabled) (round_from order from) step 0 (omega arith) there earlier in
    ap Some is ∙ ap (place_round order from) (sym first)

pub next_none : (order : List ℕ) (enabled : List Bool) (from : ℕ) → from ≤ length order
    → ((k : ℕ) → k < length order → is_on enabled (get_or order ((from + k) % length order) 0) ≡ false)
    → None ≡ next_place order enabled from
next_none order enabled from within before =
    let all : length (round_from order from) ≡ length order = length-round order from within in
    let earlier : (i : ℕ) → i < length (round_from order from) → is_on enabled (get_or (round_from order from) i 0) ≡ false =
    λ i below. let near : i < length order = omega (arith, below) in ap (is_on enabled) (round_get order from i 0 within near) ∙ before i near in
    ap (place_round order from) (sym (position_none (is_on enabled) (round_from order from) 0 earlier))

-- the places from one on to the end, and those before it
pub all_off : (order : List ℕ) (enabled : List Bool) (from below k : ℕ) → from ≤ length order → k < length order → below ≤ from
    → (length order ≤ from + k → from + k < length order + below)
    → ((j : ℕ) → from ≤ j → j < length order → is_on enabled (get_or order j 0) ≡ false)
    → ((j : ℕ) → j < below → is_on enabled (get_or order j 0) ≡ false)
    → is_on enabled (get_or order ((from + k) % length order) 0) ≡ false
all_off order enabled from below k within near low far behind before = elim (cases_lt (from + k) (length order)) [
  | inl a ↦
      let on : (from + k) % length order ≡ from + k = mod-eq_of_lt a in
      ap (λ (i : ℕ). is_on enabled (get_or order i 0)) on ∙ behind (from + k) (omega arith) a
  | inr b ↦
      let j : ℕ = from + k - length order in
      let bound : from + k < length order + below = far b in
      let all : from + k ≡ length order + j = omega arith in
      let on : (from + k) % length order ≡ j = ap (λ (i : ℕ). i % length order) all ∙ (add-mod_left (length order) j ∙ mod-eq_of_lt (omega arith)) in
      ap (λ (i : ℕ). is_on enabled (get_or order i 0)) on ∙ before j (omega arith)
]

-- a place that is ahead
pub next_ahead : (order : List ℕ) (enabled : List Bool) (from p : ℕ)
    → (from ≤ p) × (p < length order) × (is_on enabled (get_or order p 0) ≡ true)
    → ((k : ℕ) → from ≤ k → k < length order → k < p → is_on enabled (get_or order k 0) ≡ false) → Some p ≡ next_place order enabled from
next_ahead order enabled from p found first =
    let ahead : from ≤ p = found.0 in
    let within : p < length order = found.1 in
    let all : from + (p - from) ≡ p = omega arith in
    let is : p ≡ (from + (p - from)) % length order = sym (ap (λ (i : ℕ). i % length order) all ∙ mod-eq_of_lt within) in
    next_is order enabled from (p - from) p (omega arith) (omega arith) is found.2 (λ (k : ℕ) (below : k < p - from).
    let on : (from + k) % length order ≡ from + k = mod-eq_of_lt (omega (arith, below)) in
    ap (λ (i : ℕ). is_on enabled (get_or order i 0)) on ∙ first (from + k) (omega (arith, below)) (omega (arith, below)) (omega (arith, below)))

-- a place that is met in going round, where none is ahead
pub next_round : (order : List ℕ) (enabled : List Bool) (from : ℕ) (r : Option ℕ) → from ≤ length order
    → ((k : ℕ) → from ≤ k → k < length order → Unit {0} → is_on enabled (get_or order k 0) ≡ false)
    → IfSome r (λ p. (0 ≤ p) × (p < from) × (is_on enabled (get_or order p 0) ≡ true))
    → ((k : ℕ) → 0 ≤ k → k < from → IfSome r (λ p. k < p) → is_on enabled (get_or order k 0) ≡ false) → r ≡ next_place order enabled from
next_round order enabled from None within behind found first =
    next_none order enabled from within (λ (k : ℕ) (near : k < length order).
    all_off order enabled from from k within near (omega arith) (λ (b : length order ≤ from + k). omega (arith, near, b))
    (λ (j : ℕ) (low : from ≤ j) (high : j < length order). behind j low high tt) (λ (j : ℕ) (low : j < from). first j (omega arith) low tt))
next_round order enabled from (Some p) within behind found first =
    let low : p < from = found.1 in
    let step : ℕ = p + (length order - from) in
    let all : from + step ≡ length order + p = omega arith in
    let is : p ≡ (from + step) % length order = sym (ap (λ (i : ℕ). i % length order) all ∙ (add-mod_left (length order) p ∙ mod-eq_of_lt (omega arith))) in
    next_is order enabled from step p within (omega arith) is found.2 (λ (k : ℕ) (below : k < step).
    all_off order enabled from p k within (omega (arith, below)) (omega arith) (λ (b : length order ≤ from + k). omega (arith, below, b))
    (λ (j : ℕ) (l : from ≤ j) (h : j < length order). behind j l h tt)
    (λ (j : ℕ) (l : j < p). first j (omega arith) (omega (arith, l)) l))

-- the client that stands there
pub client_is : (order items : List ℕ) (place step at client : ℕ) → place ≤ length order → step < length order
    → items ≡ order → at ≡ (place + step) % length order → client ≡ get_or items at client → client ≡ get_or (round_from order place) step 0
client_is order items place step at client within near same is got =
    let all : length (round_from order place) ≡ length order = length-round order place within in
    got ∙ (ap (λ (xs : List ℕ). get_or xs at client) same ∙ (ap (λ (i : ℕ). get_or order i client) is ∙ (sym (round_get order place step client within near)
    ∙ get_or_default (round_from order place) step client 0 (omega arith))))
