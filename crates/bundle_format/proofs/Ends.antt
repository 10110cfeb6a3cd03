-- Where the tokens of a line end.
use Rattle.std.proofs.Common.{◌≡◌, ℕ, zero, suc, ◌+◌, ◌-◌, ◌≤◌, ◌<◌, List, [], ◌∷◌, ◌++◌, length, map, refl, ap, ◌∙◌, arith, length-append}
use Rattle.std.proofs.lemmas.List.{length-map}
use Rattle.std.specs.Prelude.{slice_index_or, All}
use Rattle.rl_defs.specs.Tokens.{Placed, ArePlaced}
use Rattle.rl_text.specs.declared.line.Line.{Line}
use Rattle.rl_text.specs.Places.{AreNumbered, IsWithin}
use Rattle.rl_text.specs.declared.token.Token.{Token}
use Rattle.rl_text.specs.declared.token.TokenKind.TheVariants.{Word}
use Rattle.rl_text.specs.TokenPlaces.{span_of}
use Rattle.bundle_format.specs.Woven.{behind_last}

abbrev pub no_token : Token
no_token = record { kind = Word; start = 0; «end» = 0 }

-- the end of the last token, by its place in the text
last_end : (start place : ℕ) (d : Token) (p : Placed) (ps : List Placed) → (slice_index_or (map (span_of start) (p ∷ ps)) (length (map (span_of start) ps)) d).«end» ≡ start + behind_last place (p ∷ ps)
last_end start place d p [] = refl
last_end start place d p (q ∷ ps) = last_end start p.stop d q ps

some_end : (start place : ℕ) (d : Token) (ps : List Placed) → 0 < length ps → (slice_index_or (map (span_of start) ps) (length (map (span_of start) ps) - 1) d).«end» ≡ start + behind_last place ps
some_end start place d [] some = absurd (omega arith)
some_end start place d (p ∷ ps) some =
    let n : length (map (span_of start) (p ∷ ps)) - 1 ≡ length (map (span_of start) ps) = omega arith in
    ap (λ (i : ℕ). (slice_index_or (map (span_of start) (p ∷ ps)) i d).«end») n ∙ last_end start place d p ps

pub end_is : (start : ℕ) (d : Token) (ps : List Placed) (items : List Token) → items ≡ map (span_of start) ps → 0 < length items → (slice_index_or items (length items - 1) d).«end» ≡ start + behind_last 0 ps
end_is start d ps items is some =
    ap (λ (xs : List Token). (slice_index_or xs (length xs - 1) d).«end») is ∙ some_end start 0 d ps (omega (arith, some, ap length is, length-map ps (span_of start)))

-- it lies in the line
pub end_within : (place : ℕ) (ps : List Placed) (bytes : List ℕ) → ArePlaced place ps bytes → behind_last place ps ≤ place + length bytes
end_within place [] bytes h = omega arith
end_within place (p ∷ ps) bytes (gap, text, rest, b, more) =
    omega (arith, b.stop, end_within p.stop ps rest more, ap length b.parts, length-append gap (text ++ rest), length-append text rest)

-- lines that are numbered lie in their text
pub all_within : (bytes : List ℕ) (number : ℕ) (lines : List Line) → AreNumbered bytes number lines → All (λ line. IsWithin bytes line) lines
all_within bytes number [] h k d lt = absurd (omega arith)
all_within bytes number (l ∷ lines) h zero d lt = h.1
all_within bytes number (l ∷ lines) h (suc k) d lt = all_within bytes (number + 1) lines h.2 k d (omega (arith, lt))
