-- The loops that read a line token by token.
use Rattle.std.proofs.Common.{◌≡◌, ℕ, ◌+◌, ◌-◌, true, ◌&&◌, leb, List, [], ◌∷◌, ◌++◌, length, drop, map, inr, refl, sym, ap, subst, ◌∙◌, arith}
use Rattle.std.specs.Prelude.{nat_le}
use Rattle.std.specs.List.{list_all}
use Rattle.std.proofs.lemmas.List.{map-append}
use Rattle.std.proofs.lemmas.Bool.Decides.{nat_tests}
use Rattle.rl_defs.specs.Refusals.{IsFirst, Nowhere}
use Rattle.rl_defs.specs.Tokens.{Token, Placed, ArePlaced, IsLine, HasPlaced, FailsTokens, tokens_of, is_line_byte}
use Rattle.rl_text.specs.declared.scan.Scanned.{Scanned}
use Rattle.rl_text.specs.declared.lexeme.Lexeme.{Lexeme}
use Rattle.rl_text.specs.declared.token.Token.{Token as Spanned}
use Rattle.rl_text.specs.declared.token.TokenKind.{TokenKind}
use Rattle.rl_text.specs.Scan.{is_end, blanks}
use Rattle.rl_text.specs.Lexemes.{token_of}
use Rattle.rl_text.specs.Steps.{body, IsNext}
use Rattle.rl_text.specs.TokenPlaces.{kind_of, span_of}
use Rattle.rl_text.proofs.Runs.{and_true}
use Rattle.rl_text.proofs.ReadingLaws.{Agrees, step, done, placed}

pub fits_line : (text : List ℕ) → (nat_le (length text) 2048 && list_all is_line_byte text) ≡ true → IsLine text
fits_line text e =
    let p = and_true (nat_le (length text) 2048) (list_all is_line_byte text) e in
    let le : leb (length text) 2048 ≡ true = p.0 in
    record { short = grind (arith, nat_tests); bytes = p.1 }

-- the line is refused
pub line_fails : (number : ℕ) (text : List ℕ) → ((ps : List Placed) → ArePlaced 0 ps text → ⊥) → IsFirst (FailsTokens number text) number 1
line_fails number text none = record {
  fails = (refl, refl, λ ts h. none h.0 h.2.tokens);
  first = λ l r f. inr (sym f.0, omega (arith, f.1));
}

-- the line has these tokens
pub line_passes : (number : ℕ) (text : List ℕ) (ps : List Placed) → HasPlaced ps text → Nowhere (FailsTokens number text)
line_passes number text ps h l r f = f.2 (tokens_of ps) (ps, refl, h)

pub next_step : (line : List ℕ) (front : List Placed) (place : ℕ) (s : Scanned) → Agrees line front place → IsNext line place s → Agrees line (front ++ placed (token_of line s.lexeme) s.start s.stop ∷ []) s.stop
next_step line front place s a h =
    let token : Token = token_of line s.lexeme in
    let n : ℕ = s.stop - s.start in
    let start : place + blanks (drop place line) ≡ s.start = sym h.begins in
    let stop : place + blanks (drop place line) + n ≡ s.stop = omega (arith, h.begins, h.some) in
    let x : Agrees line (front ++ placed token s.start (place + blanks (drop place line) + n) ∷ []) (place + blanks (drop place line) + n) =
    subst (λ (y : ℕ). Agrees line (front ++ placed token y (place + blanks (drop place line) + n) ∷ []) (place + blanks (drop place line) + n)) start (step line front place token n a h.goes_on h.read) in
    subst (λ (y : ℕ). Agrees line (front ++ placed token s.start y ∷ []) y) stop x

pub line_done : (line : List ℕ) (front : List Placed) (place : ℕ) → IsLine line → Agrees line front place → is_end (body (drop place line)) ≡ true → HasPlaced front line
line_done line front place fits a e = record { fits = fits; tokens = done line front place a e }

abbrev spanned : TokenKind → ℕ → ℕ → Spanned
spanned kind start stop = record { kind = kind; start = start; «end» = stop }

pub spans_more : (base : ℕ) (front : List Placed) (items new : List Spanned) (kind : TokenKind) (start stop : ℕ) (p : Placed) → items ≡ map (span_of base) front → kind ≡ kind_of p.token → start ≡ base + p.start → stop ≡ base + p.stop → new ≡ items ++ spanned kind start stop ∷ [] → new ≡ map (span_of base) (front ++ p ∷ [])
spans_more base front items new kind start stop p so_far kind-is start-is stop-is new-is =
    let same : spanned kind start stop ≡ span_of base p = ap (λ (x : TokenKind). spanned x start stop) kind-is ∙ ap (λ (x : ℕ). spanned (kind_of p.token) x stop) start-is ∙ ap (λ (x : ℕ). spanned (kind_of p.token) (base + p.start) x) stop-is in
    new-is ∙ ap (λ (x : List Spanned). x ++ spanned kind start stop ∷ []) so_far ∙ ap (λ (x : Spanned). map (span_of base) front ++ x ∷ []) same ∙ sym (map-append (span_of base) front (p ∷ []))

pub lexemes_more : (line : List ℕ) (front : List Placed) (items new : List Lexeme) (lexeme : Lexeme) (start stop : ℕ) → map (token_of line) items ≡ tokens_of front → new ≡ items ++ lexeme ∷ [] → map (token_of line) new ≡ tokens_of (front ++ placed (token_of line lexeme) start stop ∷ [])
lexemes_more line front items new lexeme start stop so_far new-is =
    ap (map (token_of line)) new-is ∙ map-append (token_of line) items (lexeme ∷ []) ∙ ap (λ (x : List Token). x ++ token_of line lexeme ∷ []) so_far ∙ sym (map-append (λ (p : Placed). p.token) front (placed (token_of line lexeme) start stop ∷ []))
