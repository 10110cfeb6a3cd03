-- Digits and the numbers that they stand for.
use Rattle.std.proofs.Common.{◌≡◌, ℕ, ◌+◌, ◌*◌, ◌^◌, ◌<◌, ◌≤◌, Bool, true, false, cond, ◌&&◌, eqb, List, [], ◌∷◌, length, take, get_or, Some, None, refl, sym, ap, ◌∙◌, arith, lt-ltb, le-ltb, ltb-true}
use Rattle.std.specs.Prelude.{nat_lt}
use Rattle.std.specs.Char.{digit_value}
use Rattle.std.specs.List.{list_all}
use Rattle.std.specs.Str.Parse.{AllDigits, IsNumeral, digits_value}
use Rattle.std.proofs.lemmas.Int.Digits.{digits_value_more}
use Rattle.std.proofs.lemmas.Str.Parse.{digits_value-take-le}
use Rattle.std.proofs.lemmas.List.{take_all}
use Rattle.std.proofs.lemmas.List.Folds.{list_all_more, list_all_at}
use Rattle.rl_text.specs.Scan.{number_of}
use Rattle.rl_text.proofs.Runs.{and_true}

abbrev pub is_digit_of : ℕ → ℕ → Bool
is_digit_of radix c = nat_lt (digit_value c) radix

pub number_empty : (radix : ℕ) (ds : List ℕ) → length ds ≡ 0 → number_of radix ds ≡ None
unfolding number_of
number_empty radix [] e = refl
number_empty radix (d ∷ ds) e = absurd (omega arith)

pub number_stray : (radix : ℕ) (ds : List ℕ) (i : ℕ) → i < length ds → radix ≤ digit_value (get_or ds i 0) → number_of radix ds ≡ None
unfolding number_of
number_stray radix ds i lt le =
    let no : is_digit_of radix (get_or ds i 0) ≡ false = le-ltb _ _ le in
    let some : nat_lt 0 (length ds) ≡ true = lt-ltb _ _ (omega arith) in
    rw (some, list_all_at (is_digit_of radix) ds i 0 lt no) refl

big : (radix : ℕ) (ds : List ℕ) (b : Bool) → 2 ^ 64 ≤ digits_value radix ds → cond b (cond (nat_lt (digits_value radix ds) (2 ^ 64)) (Some (digits_value radix ds)) None) None ≡ None
big radix ds true le = rw (le-ltb _ _ le) refl
big radix ds false le = refl

pub number_big : (radix : ℕ) (ds : List ℕ) (i value digit : ℕ) → i < length ds → 1 ≤ radix → value ≡ digits_value radix (take i ds) → digit ≡ digit_value (get_or ds i 0) → 2 ^ 64 ≤ value * radix + digit → number_of radix ds ≡ None
unfolding number_of
number_big radix ds i value digit lt one is digit-is le =
    let more : digits_value radix (take (i + 1) ds) ≡ value * radix + digit = rw (is, digit-is) (digits_value_more radix ds i lt) in
    big radix ds _ (omega (arith, more, le, digits_value-take-le radix ds (i + 1) one))

pub digits_more : (radix : ℕ) (ds : List ℕ) (i : ℕ) → i < length ds → list_all (is_digit_of radix) (take i ds) ≡ true → digit_value (get_or ds i 0) < radix → list_all (is_digit_of radix) (take (i + 1) ds) ≡ true
digits_more radix ds i lt all here =
    let one : is_digit_of radix (get_or ds i 0) ≡ true = lt-ltb _ _ here in
    list_all_more (is_digit_of radix) ds i 0 lt ∙ rw (all, one) refl

pub value_more : (radix : ℕ) (ds : List ℕ) (i value digit new : ℕ) → i < length ds → value ≡ digits_value radix (take i ds) → digit ≡ digit_value (get_or ds i 0) → new ≡ value * radix + digit → new ≡ digits_value radix (take (i + 1) ds)
value_more radix ds i value digit new lt is digit-is new-is = rw (new-is, is, digit-is) (sym (digits_value_more radix ds i lt))

pub number_all : (radix : ℕ) (ds : List ℕ) (i value : ℕ) → 0 < length ds → length ds ≤ i → list_all (is_digit_of radix) (take i ds) ≡ true → value ≡ digits_value radix (take i ds) → value < 2 ^ 64 → number_of radix ds ≡ Some value
unfolding number_of
number_all radix ds i value some le all is lt =
    let whole : take i ds ≡ ds = take_all i ds le in
    let same : value ≡ digits_value radix ds = is ∙ ap (digits_value radix) whole in
    let every : list_all (is_digit_of radix) ds ≡ true = rw whole at all in
    let fits : nat_lt (digits_value radix ds) (2 ^ 64) ≡ true = lt-ltb _ _ (omega arith) in
    let front : nat_lt 0 (length ds) ≡ true = lt-ltb _ _ some in
    rw (front, every, fits) (ap (λ (n : ℕ). Some n) (sym same))

-- ---- the numbers of the definition

numeral_all : (radix : ℕ) (ds : List ℕ) → AllDigits radix ds → list_all (is_digit_of radix) ds ≡ true
numeral_all radix [] h = refl
numeral_all radix (d ∷ ds) h = rw (lt-ltb (digit_value d) radix h.0) (numeral_all radix ds h.1)

all_numeral : (radix : ℕ) (ds : List ℕ) → list_all (is_digit_of radix) ds ≡ true → AllDigits radix ds
all_numeral radix [] e = tt
all_numeral radix (d ∷ ds) e = let p = and_true (is_digit_of radix d) (list_all (is_digit_of radix) ds) e in (ltb-true (digit_value d) radix p.0, all_numeral radix ds p.1)

pub number_spelled : (radix : ℕ) (ds : List ℕ) (n : ℕ) → IsNumeral radix ds → n ≡ digits_value radix ds → n < 2 ^ 64 → number_of radix ds ≡ Some n
unfolding number_of
number_spelled radix ds n h is lt =
    let front : nat_lt 0 (length ds) ≡ true = lt-ltb _ _ h.0 in
    let fits : nat_lt (digits_value radix ds) (2 ^ 64) ≡ true = lt-ltb _ _ (omega arith) in
    rw (front, numeral_all radix ds h.1, fits) (ap (λ (m : ℕ). Some m) (sym is))

pub record NumberFound (radix : ℕ) (ds : List ℕ) (n : ℕ) : Type 0 where
  pub numeral : IsNumeral radix ds
  pub value : n ≡ digits_value radix ds
  pub fits : n < 2 ^ 64

found : (radix : ℕ) (ds : List ℕ) (n : ℕ) (a b : Bool) → (nat_lt 0 (length ds) && list_all (is_digit_of radix) ds) ≡ a → nat_lt (digits_value radix ds) (2 ^ 64) ≡ b → cond a (cond b (Some (digits_value radix ds)) None) None ≡ Some n → NumberFound radix ds n
found radix ds n true true x y e =
    let p = and_true (nat_lt 0 (length ds)) (list_all (is_digit_of radix) ds) x in
    let same : digits_value radix ds ≡ n = cc in
    let lt : digits_value radix ds < 2 ^ 64 = ltb-true _ _ y in
    record { numeral = (ltb-true _ _ p.0, all_numeral radix ds p.1); value = sym same; fits = omega arith }
found radix ds n true false x y e = absurd cc
found radix ds n false b x y e = absurd cc

pub number_found : (radix : ℕ) (ds : List ℕ) (n : ℕ) → number_of radix ds ≡ Some n → NumberFound radix ds n
unfolding number_of
number_found radix ds n e = found radix ds n _ _ refl refl e

pub not_empty : (ds : List ℕ) → eqb (length ds) 0 ≡ false → 0 < length ds
not_empty [] e = absurd cc
not_empty (d ∷ ds) e = omega arith
