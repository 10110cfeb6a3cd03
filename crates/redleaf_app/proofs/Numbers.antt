-- Numbers at the front of bytes.
use Rattle.std.proofs.Common.{◌≡◌, ℕ, zero, suc, ◌+◌, ◌<◌, ◌≤◌, ◌^◌, Bool, true, false, List, [], ◌∷◌, ◌++◌, length, get_or, take, drop, refl, sym, ap, ◌∙◌, arith}
use Rattle.std.proofs.lemmas.Bool.Decides.{nat_tests}
use Rattle.std.specs.Char.{is_ascii_digit}
use Rattle.std.specs.Int.{IsInRange}
use Rattle.std.specs.Fmt.{decimal}
use Rattle.std.specs.Str.Parse.{AllDigits, digits_value}
use Rattle.std.proofs.lemmas.Str.Parse.{IsNumeralModel, numerals_by_value, tells_digits, digit_from_value}
use Rattle.std.proofs.lemmas.Fmt.{digits_decimal, digits_value-decimal, decimal-digits_value, first_decimal, decimal_injective, decimal_digit}
use Rattle.std.proofs.lemmas.List.Sums.{prefix_len-le-length}
use Rattle.std.specs.Prelude.{MatchOption, Option, Some, None, ◌≢◌}
use Rattle.std.proofs.lemmas.List.{take_at, append_cancel_left}
use Rattle.std.proofs.lemmas.Str.{digit_value_digit}
use Rattle.redleaf_app.specs.Digits.{digits_len, NoDigit}

pub own : IsNumeralModel (AllDigits 10) (digits_value 10)
own = numerals_by_value (AllDigits 10) tells_digits

pub digit_test : (c : ℕ) → IsInRange 48 57 c → is_ascii_digit c ≡ true
digit_test c h = grind (arith, nat_tests, h.0, h.1)

pub digit_from_test : (c : ℕ) → is_ascii_digit c ≡ true → IsInRange 48 57 c
digit_from_test c h = grind (arith, nat_tests)

-- the digits at the front, and what follows them
pub digits_len-append : (ds rest : List ℕ) → AllDigits 10 ds → NoDigit rest → digits_len (ds ++ rest) ≡ length ds
digits_len-append [] rest all none = none
digits_len-append (d ∷ ds) rest all none =
    let here : is_ascii_digit d ≡ true = digit_test d (digit_from_value d all.0) in
    rw here (omega (arith, digits_len-append ds rest all.1 none))

drop_more : (x : ℕ) (xs : List ℕ) (b : Bool) → is_ascii_digit x ≡ b → NoDigit (drop (digits_len xs) xs) → NoDigit (drop (digits_len (x ∷ xs)) (x ∷ xs))
drop_more x xs true e rest = let one : 1 + digits_len xs ≡ suc (digits_len xs) = omega arith in rw (e, one) rest
drop_more x xs false e rest = rw (e, e) refl

pub drop-digits_len : (xs : List ℕ) → NoDigit (drop (digits_len xs) xs)
drop-digits_len [] = refl
drop-digits_len (x ∷ xs) = drop_more x xs (is_ascii_digit x) refl (drop-digits_len xs)

all_more : (x : ℕ) (xs : List ℕ) (b : Bool) → is_ascii_digit x ≡ b → AllDigits 10 (take (digits_len xs) xs) → AllDigits 10 (take (digits_len (x ∷ xs)) (x ∷ xs))
all_more x xs true e rest =
    let one : 1 + digits_len xs ≡ suc (digits_len xs) = omega arith in
    let range = digit_from_test x e in
    rw (e, one) (omega (arith, digit_value_digit x range, range.0, range.1), rest)
all_more x xs false e rest = rw e tt

pub all_digits_len : (xs : List ℕ) → AllDigits 10 (take (digits_len xs) xs)
all_digits_len [] = tt
all_digits_len (x ∷ xs) = all_more x xs (is_ascii_digit x) refl (all_digits_len xs)

pub digits_len_le : (xs : List ℕ) → digits_len xs ≤ length xs
digits_len_le xs = prefix_len-le-length is_ascii_digit xs

-- a number that no digit follows is the digits at the front
pub number_is : (bytes : List ℕ) (n : ℕ) (rest : List ℕ) → n < 2 ^ 64 → NoDigit rest → bytes ≡ decimal n ++ rest → take (digits_len bytes) bytes ≡ decimal n
number_is bytes n rest lt none e =
    let len : digits_len bytes ≡ length (decimal n) = ap digits_len e ∙ digits_len-append (decimal n) rest (digits_decimal own n lt) none in
    rw (len, e) (take_at (decimal n) rest (length (decimal n)) refl)

-- one reading of a number at the front
pub number_once : (m n : ℕ) (x y : List ℕ) → m < 2 ^ 64 → n < 2 ^ 64 → NoDigit x → NoDigit y → decimal m ++ x ≡ decimal n ++ y → (m ≡ n) × (x ≡ y)
number_once m n x y lm ln nx ny e =
    let one = number_is (decimal m ++ x) m x lm nx refl in
    let two = number_is (decimal m ++ x) n y ln ny e in
    let same : m ≡ n = decimal_injective m n lm ln (sym one ∙ two) in
    (same, append_cancel_left (decimal n) x y (ap (λ k. decimal k ++ x) (sym same) ∙ e))
