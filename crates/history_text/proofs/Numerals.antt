-- Numbers at the front of bytes.
use Rattle.std.proofs.Common.{◌≡◌, ℕ, zero, suc, ◌+◌, ◌<◌, ◌≤◌, ◌^◌, Bool, true, false, List, [], ◌∷◌, ◌++◌, length, get_or, take, drop, refl, sym, ap, ◌∙◌, arith}
use Rattle.std.proofs.lemmas.Bool.Decides.{nat_tests}
use Rattle.std.specs.Char.{is_ascii_digit}
use Rattle.std.specs.Int.{IsInRange}
use Rattle.std.specs.Fmt.{decimal}
use Rattle.std.specs.Str.Parse.{AllDigits, digits_value}
use Rattle.std.proofs.lemmas.Str.Parse.{IsNumeralModel, numerals_by_value, tells_digits, digit_from_value}
use Rattle.std.proofs.lemmas.Fmt.{digits_decimal, digits_value-decimal, decimal-digits_value, first_decimal, decimal_injective, decimal_digit}
use Rattle.std.proofs.lemmas.List.Sums.{prefix_len-le-length}
use Rattle.std.specs.Prelude.{MatchOption, Option, Some, None, ◌≢◌}
use Rattle.std.proofs.lemmas.List.{take_at, append_cancel_left}
use Rattle.std.proofs.lemmas.Str.{digit_value_digit}

pub own : IsNumeralModel (AllDigits 10) (digits_value 10)
own = numerals_by_value (AllDigits 10) tells_digits

pub digit_test : (c : ℕ) → IsInRange 48 57 c → is_ascii_digit c ≡ true
digit_test c h = grind (arith, nat_tests, h.0, h.1)

pub digit_from_test : (c : ℕ) → is_ascii_digit c ≡ true → IsInRange 48 57 c
digit_from_test c h = grind (arith, nat_tests)

-- digits with a zero in front of others spell no number
pub not_canonical : (ds : List ℕ) (n : ℕ) → n < 2 ^ 64 → get_or ds 0 0 ≡ 48 → 1 < length ds → ds ≡ decimal n → ⊥
not_canonical ds zero lt zero_first long e = let one : decimal 0 ≡ 48 ∷ [] = decimal_digit 0 (omega arith) in omega (arith, ap length (e ∙ one))
not_canonical ds (suc n) lt zero_first long e =
    omega (arith, first_decimal (suc n) (omega arith) lt, ap (λ xs. get_or xs 0 0) e)

-- digits of a value that is known to fit or not, in the one spelling of a number
pub number_cases : (r : Option ℕ) (ds : List ℕ) → AllDigits 10 ds → 0 < length ds → (get_or ds 0 0 ≡ 48 → length ds ≡ 1) → MatchOption r (2 ^ 64 ≤ digits_value 10 ds) (λ n. (n ≡ digits_value 10 ds) × (n < 2 ^ 64)) → MatchOption r ((n : ℕ) → n < 2 ^ 64 → ds ≢ decimal n) (λ n. (ds ≡ decimal n) × (n < 2 ^ 64))
number_cases None ds all some canonical big = λ n lt e. omega (arith, big, lt, ap (digits_value 10) e, digits_value-decimal own n lt)
number_cases (Some v) ds all some canonical is =
    let lt : digits_value 10 ds < 2 ^ 64 = omega (arith, is.0, is.1) in
    (sym (decimal-digits_value own ds all some canonical lt) ∙ ap decimal (sym is.0), is.1)
