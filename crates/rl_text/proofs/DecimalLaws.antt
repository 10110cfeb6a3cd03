-- Lines whose numbers are written in decimal digits.
use Rattle.std.proofs.Common.{◌≡◌, ℕ, ◌<◌, Bool, true, false, ◌&&◌, IsTrue, List, [], ◌∷◌, ◌++◌, length, drop, None, refl, sym, subst, ◌∙◌, arith}
use Rattle.std.specs.Prelude.{◌↔◌, nat_le}
use Rattle.std.specs.List.{list_all}
use Rattle.std.specs.Char.{is_ascii_digit, digit_value}
use Rattle.std.specs.Str.Parse.{AllDigits, IsNumeral}
use Rattle.std.proofs.lemmas.Bool.Decides.{nat_tests}
use Rattle.rl_defs.specs.Tokens.{Placed, IsLine, is_line_byte}
use Rattle.rl_defs.specs.DomainForms.{IsDecimal, AreDecimal, HasDecimals}
use Rattle.rl_text.specs.declared.scan.Scanned.{Scanned}
use Rattle.rl_text.specs.Lexemes.{token_of}
use Rattle.rl_text.specs.Scan.{is_end, token_at}
use Rattle.rl_text.specs.Steps.{body, IsNext}
use Rattle.rl_text.proofs.Runs.{and_true}
use Rattle.rl_text.proofs.ReadingLaws.{Agrees, placed, stuck}
use Rattle.rl_text.proofs.StepLaws.{next_step}

-- ---- digits

digit : (c : ℕ) → is_ascii_digit c ≡ true → digit_value c < 10
digit c h = grind (arith, nat_tests)

digit_back : (c : ℕ) → digit_value c < 10 → is_ascii_digit c ≡ true
digit_back c h = grind (arith, nat_tests)

pub all_digits : (run : List ℕ) → list_all is_ascii_digit run ≡ true → AllDigits 10 run
all_digits [] h = tt
all_digits (c ∷ cs) h = let p = and_true (is_ascii_digit c) (list_all is_ascii_digit cs) h in (digit c p.0, all_digits cs p.1)

pub all_digits_back : (run : List ℕ) → AllDigits 10 run → list_all is_ascii_digit run ≡ true
all_digits_back [] h = refl
all_digits_back (c ∷ cs) h = rw (digit_back c h.0) (all_digits_back cs h.1)

pub numeral : (run : List ℕ) (b : Bool) → b ≡ list_all is_ascii_digit run → 0 < length run → IsTrue b ↔ IsNumeral 10 run
numeral run b e some = (λ h. (some, all_digits run (sym e ∙ h)), λ h. e ∙ all_digits_back run h.1)

-- ---- tokens so far

pub decimal_last : (text : List ℕ) (front : List Placed) (p : Placed) → AreDecimal text front → IsDecimal text p.token p.start p.stop → AreDecimal text (front ++ p ∷ [])
decimal_last text [] p h d = (d, tt)
decimal_last text (q ∷ front) p h d = (h.0, decimal_last text front p h.1 d)

decimal_at : (text : List ℕ) (front : List Placed) (p : Placed) (us : List Placed) → AreDecimal text ((front ++ p ∷ []) ++ us) → IsDecimal text p.token p.start p.stop
decimal_at text [] p us h = h.0
decimal_at text (q ∷ front) p us h = decimal_at text front p us h.1

-- a number in other digits
pub not_decimal : (text : List ℕ) (front : List Placed) (place : ℕ) (s : Scanned) → Agrees text front place → IsNext text place s → (IsDecimal text (token_of text s.lexeme) s.start s.stop → ⊥) → HasDecimals text → ⊥
not_decimal text front place s a next other h =
    let p : Placed = placed (token_of text s.lexeme) s.start s.stop in
    let c = (next_step text front place s a next).complete h.0 h.1.tokens in
    other (decimal_at text front p c.0 (subst (λ (ps : List Placed). AreDecimal text ps) c.1 h.2))

pub no_decimals : (text : List ℕ) (front : List Placed) (place : ℕ) → Agrees text front place → is_end (body (drop place text)) ≡ false → token_at (body (drop place text)) ≡ None → HasDecimals text → ⊥
no_decimals text front place a more none h = stuck text front place a more none h.0 h.1.tokens

pub no_line : (text : List ℕ) → (nat_le (length text) 2048 && list_all is_line_byte text) ≡ false → HasDecimals text → ⊥
no_line text e h =
    let fits : IsLine text = h.1.fits in
    let le : nat_le (length text) 2048 ≡ true = grind (arith, nat_tests, fits.short) in
    let f : true ≡ false = sym (rw (le, fits.bytes) refl) ∙ e in cc

pub never : (b : Bool) (P : Type 0) → b ≡ false → (P → ⊥) → IsTrue b ↔ P
never b P e none = (λ h. absurd (let f : false ≡ true = sym e ∙ h in cc), λ p. absurd (none p))
