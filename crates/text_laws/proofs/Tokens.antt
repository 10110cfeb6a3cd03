-- Texts of words and what is read back from them: the front of a text that is a word, and a list of words behind blanks.
use Rattle.std.proofs.Common.{◌≡◌, ℕ, Bool, true, false, not, ◌||◌, ◌==◌, List, [], ◌∷◌, ◌++◌, refl, sym, ap, ◌∙◌}
use Rattle.std.specs.List.{list_all, flat_map, AllByRecursion}
use Rattle.rl_defs.specs.Words.{is_word_byte}
use Rattle.rl_defs.proofs.Lists.{and_left, and_right}

-- a byte of words, `&` or `@`
abbrev pub is_plain : ℕ → Bool
is_plain b = is_word_byte b || ((b == 38) || (b == 64))

abbrev pub plain : List ℕ → Bool
plain = list_all is_plain

-- no byte that passes the test comes first
abbrev pub begins_without : (ℕ → Bool) → List ℕ → Bool
begins_without test [] = true
begins_without test (b ∷ bs) = not (test b)

abbrev pub stops : List ℕ → Bool
stops = begins_without is_plain

both_ways : {A : Type 0} (b : Bool) → b ≡ true → not b ≡ true → A
both_ways true is isnt = absurd cc
both_ways false is isnt = absurd cc

ends_apart : {A : Type 0} (test : ℕ → Bool) (b : ℕ) (v r q : List ℕ) → list_all test (b ∷ v) ≡ true → begins_without test r ≡ true → r ≡ (b ∷ v) ++ q → A
ends_apart test b v [] q is off e = absurd cc
ends_apart test b v (c ∷ r) q is off e =
    let same : c ≡ b = cc in
    both_ways (test b) (and_left (test b) (list_all test v) is) (ap (λ (d : ℕ). not (test d)) (sym same) ∙ off)

-- The front of a text whose bytes all pass the test, where the next one doesn't, is known, and so is the rest.
pub front : (test : ℕ → Bool) (w v r q : List ℕ) → list_all test w ≡ true → list_all test v ≡ true → begins_without test r ≡ true → begins_without test q ≡ true → w ++ r ≡ v ++ q → (w ≡ v) × (r ≡ q)
front test [] [] r q w_is v_is r_off q_off e = (refl, e)
front test [] (b ∷ v) r q w_is v_is r_off q_off e = ends_apart test b v r q v_is r_off e
front test (a ∷ w) [] r q w_is v_is r_off q_off e = ends_apart test a w q r w_is q_off (sym e)
front test (a ∷ w) (b ∷ v) r q w_is v_is r_off q_off e =
    let first : a ≡ b = cc in
    let rest : w ++ r ≡ v ++ q = cc in
    let more = front test w v r q (and_right (test a) (list_all test w) w_is) (and_right (test b) (list_all test v) v_is) r_off q_off rest in
    (let same = more.0 in cc, more.1)

-- Each has a plain text, and no two have the same.
pub record ReadsBack {A : Type 0} (Good : A → Type 0) (text : A → List ℕ) : Type 0 where
  pub plain_text : (a : A) → Good a → plain (text a) ≡ true
  pub apart : (a b : A) → Good a → Good b → text a ≡ text b → a ≡ b

-- one of these behind a byte, and what follows
pub read : {A : Type 0} {Good : A → Type 0} {text : A → List ℕ} {c d : ℕ} → ReadsBack Good text → (a b : A) (r q : List ℕ) → Good a → Good b → stops r ≡ true → stops q ≡ true → c ∷ (text a ++ r) ≡ d ∷ (text b ++ q) → (a ≡ b) × (r ≡ q)
read {A} {Good} {text} {c} {d} known a b r q good fine r_off q_off e =
    let rest : text a ++ r ≡ text b ++ q = cc in
    let f = front is_plain (text a) (text b) r q (known.plain_text a good) (known.plain_text b fine) r_off q_off rest in
    (known.apart a b good fine f.0, f.1)

-- the items of a list, each behind a blank
abbrev pub listed : {A : Type 0} → (A → List ℕ) → List A → List ℕ
listed text items = flat_map (λ a. 32 ∷ text a) items

pub listed_stops : {A : Type 0} (text : A → List ℕ) (items : List A) → stops (listed text items) ≡ true
listed_stops text [] = refl
listed_stops text (a ∷ items) = refl

pub read_list : {A : Type 0} {Good : A → Type 0} {text : A → List ℕ} → ReadsBack Good text → (xs ys : List A) → AllByRecursion Good xs → AllByRecursion Good ys → listed text xs ≡ listed text ys → xs ≡ ys
read_list known [] [] good fine e = refl
read_list known [] (b ∷ ys) good fine e = absurd cc
read_list known (a ∷ xs) [] good fine e = absurd cc
read_list {A} {Good} {text} known (a ∷ xs) (b ∷ ys) good fine e =
    let f = read known a b (listed text xs) (listed text ys) good.0 fine.0 (listed_stops text xs) (listed_stops text ys) e in
    let rest = read_list known xs ys good.1 fine.1 f.1 in
    let first = f.0 in
    cc
