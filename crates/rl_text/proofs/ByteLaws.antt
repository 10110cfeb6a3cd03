-- The bytes of tokens may stand in a line, so that only those behind the last token are tested.
use Rattle.std.proofs.Common.{◌≡◌, ℕ, ◌+◌, ◌-◌, ◌≤◌, Bool, true, false, ◌&&◌, not, inl, inr, List, [], ◌∷◌, ◌++◌, length, take, drop, refl, sym, ap, ◌∙◌, arith}
use Rattle.std.specs.List.{list_all}
use Rattle.std.proofs.lemmas.List.{take-append-drop}
use Rattle.std.proofs.lemmas.List.Folds.{list_all-append}
use Rattle.std.proofs.Math.Seq.{take-add}
use Rattle.rl_defs.specs.Refusals.{IsFirst}
use Rattle.rl_defs.specs.Words.{is_word, is_reserved}
use Rattle.rl_defs.specs.Tokens.{Token, Name, Reserved, Number, Text, Sign, IsToken, IsLine, FailsTokens, is_line_byte, is_blank, key_text}
use Rattle.rl_text.specs.declared.scan.Scanned.{Scanned}
use Rattle.rl_text.specs.Lexemes.{token_of}
use Rattle.rl_text.specs.Scan.{blanks}
use Rattle.rl_text.specs.Steps.{body, IsNext}
use Rattle.rl_text.proofs.Runs.{and_true, all_before}
use Rattle.rl_text.proofs.TokenLaws.{key_word, digits_bytes}
use Rattle.rl_text.proofs.FoundLaws.{token_at-found}
use Rattle.rl_text.proofs.RenderSpells.{words_bytes, text_bytes, mark_bytes, is_word_bytes, both_bytes, blank_bytes}

-- the bytes of a token
token_bytes : (token : Token) (text : List ℕ) → IsToken token text → list_all is_line_byte text ≡ true
token_bytes (Name word) text h = is_word_bytes text (and_true (is_word text) (not (is_reserved text)) (rw h.0 h.1)).0
token_bytes (Reserved key) text h = ap (list_all is_line_byte) h ∙ is_word_bytes (key_text key) (key_word key)
token_bytes (Number n) text (lt, inl (h, is)) = words_bytes text (digits_bytes 10 text (omega arith) h.1)
token_bytes (Number n) text (lt, inr (digits, parts, h, is)) = ap (list_all is_line_byte) parts ∙ words_bytes digits (digits_bytes 16 digits (omega arith) h.1)
token_bytes (Text inner) text h = ap (list_all is_line_byte) h.0 ∙ list_all-append is_line_byte inner (34 ∷ []) ∙ rw (text_bytes inner h.1) refl
token_bytes (Sign mark) text h = ap (list_all is_line_byte) h ∙ mark_bytes mark

-- the bytes up to the end of the next token
pub next_bytes : (line : List ℕ) (place : ℕ) (s : Scanned) → IsNext line place s → list_all is_line_byte (take place line) ≡ true → list_all is_line_byte (take s.stop line) ≡ true
next_bytes line place s h so_far =
    let rest : List ℕ = drop place line in
    let gap : ℕ = blanks rest in
    let n : ℕ = s.stop - s.start in
    let stop : s.stop ≡ place + (gap + n) = omega (arith, h.begins, h.some) in
    let token = (token_at-found (body rest) (token_of line s.lexeme) n h.read).here in
    let here = token_bytes (token_of line s.lexeme) (take n (body rest)) token in
    let before = blank_bytes (take gap rest) (all_before is_blank rest) in
    let parts : take s.stop line ≡ take place line ++ (take gap rest ++ take n (body rest)) = ap (λ (x : ℕ). take x line) stop ∙ take-add place (gap + n) line ∙ ap (λ (x : List ℕ). take place line ++ x) (take-add gap n rest) in
    ap (list_all is_line_byte) parts ∙ both_bytes (take place line) (take gap rest ++ take n (body rest)) so_far (both_bytes (take gap rest) (take n (body rest)) before here)

-- all bytes, by those before a place and those behind it
pub whole_bytes : (line : List ℕ) (place : ℕ) → list_all is_line_byte (take place line) ≡ true → list_all is_line_byte (drop place line) ≡ true → list_all is_line_byte line ≡ true
whole_bytes line place before behind = ap (list_all is_line_byte) (sym (take-append-drop place line)) ∙ both_bytes (take place line) (drop place line) before behind

last_of : (a b : Bool) → (a && b) ≡ true → b ≡ true
last_of true b e = e
last_of false b e = absurd cc

-- a byte behind a place that may stand in no line
pub bad_bytes : (line : List ℕ) (place : ℕ) → list_all is_line_byte (drop place line) ≡ false → IsLine line → ⊥
bad_bytes line place bad fits =
    let all : (list_all is_line_byte (take place line) && list_all is_line_byte (drop place line)) ≡ true = sym (list_all-append is_line_byte (take place line) (drop place line)) ∙ ap (list_all is_line_byte) (take-append-drop place line) ∙ fits.bytes in
    let f : false ≡ true = sym bad ∙ last_of (list_all is_line_byte (take place line)) (list_all is_line_byte (drop place line)) all in cc

-- a line that is none is refused
pub unfit_fails : (number : ℕ) (text : List ℕ) → (IsLine text → ⊥) → IsFirst (FailsTokens number text) number 1
unfit_fails number text none = record {
  fails = (refl, refl, λ ts h. none h.2.fits);
  first = λ l r f. inr (sym f.0, omega (arith, f.1));
}

pub line_fits : (text : List ℕ) (place : ℕ) → length text ≤ 2048 → list_all is_line_byte (take place text) ≡ true → list_all is_line_byte (drop place text) ≡ true → IsLine text
line_fits text place short before behind = record { short = short; bytes = whole_bytes text place before behind }
