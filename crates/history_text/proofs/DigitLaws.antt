-- What is read of digits, and of other words.
use Rattle.std.proofs.Common.{◌≡◌, ◌≢◌, ℕ, inl, inr, ◌+◌, ◌-◌, ◌^◌, ◌<◌, Bool, true, false, ◌&&◌, List, [], ◌∷◌, Option, Some, None, refl, sym, ap, ◌∙◌, arith, ltb, cond}
use Rattle.std.specs.Prelude.{MatchOption}
use Rattle.std.specs.Char.{is_ascii_digit}
use Rattle.std.specs.List.{list_all}
use Rattle.std.specs.Fmt.{decimal}
use Rattle.std.specs.Str.Parse.{AllDigits}
use Rattle.std.proofs.lemmas.Bool.{and_parts, lt-ltb, le-ltb}
use Rattle.std.proofs.lemmas.Bool.{cases_lt, false≢true}
use Rattle.std.proofs.lemmas.Fmt.{digits_decimal}
use Rattle.std.proofs.lemmas.Str.{digit_value_digit}
use Rattle.std.proofs.lemmas.Str.Parse.{digit_from_value}
use Rattle.history_text.specs.Reading.{◌>>=◌, number_of_64, number_of_32, narrow}
use Rattle.history_text.proofs.Numerals.{own, digit_test, digit_from_test}
use Rattle.history_text.proofs.FieldLaws.{number_64, number_32}

pub digits_pass : (w : List ℕ) → AllDigits 10 w → list_all is_ascii_digit w ≡ true
digits_pass [] all = refl
digits_pass (d ∷ ds) all = rw (digit_test d (digit_from_value d all.0)) (digits_pass ds all.1)

pub digits_from_pass : (w : List ℕ) → list_all is_ascii_digit w ≡ true → AllDigits 10 w
digits_from_pass [] is = tt
digits_from_pass (d ∷ ds) is =
    let parts = and_parts (is_ascii_digit d) (list_all is_ascii_digit ds) is in
    let range = digit_from_test d parts.0 in
    (omega (arith, digit_value_digit d range, range.0, range.1), digits_from_pass ds parts.1)

unread : (o : Option ℕ) → ((n : ℕ) → o ≡ Some n → ⊥) → None ≡ o
unread None never = refl
unread (Some n) never = absurd (never n refl)

pub other_word : (w : List ℕ) → list_all is_ascii_digit w ≡ false → None ≡ number_of_64 w
other_word w off = unread (number_of_64 w) (λ n e. let t = number_64.takes w n e in false≢true (sym off ∙ (ap (list_all is_ascii_digit) t.0 ∙ digits_pass (decimal n) (digits_decimal own n t.1))))

pub same_number : (r : Option ℕ) (w : List ℕ) → MatchOption r ((n : ℕ) → n < 2 ^ 64 → w ≢ decimal n) (λ n. (w ≡ decimal n) × (n < 2 ^ 64)) → r ≡ number_of_64 w
same_number None w miss = unread (number_of_64 w) (λ n e. let t = number_64.takes w n e in miss n t.1 t.0)
same_number (Some n) w is = sym (ap number_of_64 is.0 ∙ number_64.again n is.1)

-- a number of 32 bits is one of 64 bits that is small
pub narrowed : (w : List ℕ) → number_of_32 w ≡ (number_of_64 w >>= narrow)
narrowed w = by (number_of_64 w) refl where
  by : (o : Option ℕ) → number_of_64 w ≡ o → number_of_32 w ≡ (o >>= narrow)
  by None e = sym (unread (number_of_32 w) (λ n f. let t = number_32.takes w n f in let wide : n < 2 ^ 64 = omega arith in let some : number_of_64 w ≡ Some n = ap number_of_64 t.0 ∙ number_64.again n wide in let never : None ≡ Some n = sym e ∙ some in absurd cc))
  by (Some n) e = elim (cases_lt n (2 ^ 32)) [
    | inl less ↦ let t = number_64.takes w n e in ap number_of_32 t.0 ∙ (number_32.again n less ∙ rw (lt-ltb n (2 ^ 32) less) refl)
    | inr more ↦
        let t = number_64.takes w n e in
        let none : None ≡ number_of_32 w = unread (number_of_32 w) (λ m f. let s = number_32.takes w m f in let wide : m < 2 ^ 64 = omega arith in let some : number_of_64 w ≡ Some m = ap number_of_64 s.0 ∙ number_64.again m wide in let same : n ≡ m = cc in omega arith) in
        sym none ∙ rw (le-ltb n (2 ^ 32) more) refl
  ]
