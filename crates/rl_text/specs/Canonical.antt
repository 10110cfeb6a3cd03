-- The canonical spelling of tokens.
use Rattle.std.specs.Prelude.{ℕ, ◌*◌, Bool, true, false, ◌&&◌, not, List, [], ◌∷◌, ◌++◌, replicate, if◌then◌else◌}
use Rattle.std.specs.Fmt.{decimal}
use Rattle.rl_defs.specs.declared.lexeme.Mark.TheVariants as m
use Rattle.rl_defs.specs.Tokens.{Token, Name, Reserved, Number, Text, Sign, key_text, mark_text}

-- the bytes of a token; numbers are decimal
abbrev pub token_text : Token → List ℕ
token_text (Name word) = word
token_text (Reserved key) = key_text key
token_text (Number n) = decimal n
token_text (Text inner) = 34 ∷ inner ++ 34 ∷ []
token_text (Sign mark) = mark_text mark

-- no blank stands behind these marks
abbrev pub opens : Token → Bool
opens (Sign m.OpenParen) = true
opens (Sign m.OpenBracket) = true
opens (Sign m.Less) = true
opens (Sign m.Ampersand) = true
opens (Sign m.Star) = true
opens (Sign m.At) = true
opens (Sign m.Dot) = true
opens (Sign m.Hash) = true
opens _ = false

-- no blank stands before these marks
abbrev pub closes : Token → Bool
closes (Sign m.CloseParen) = true
closes (Sign m.CloseBracket) = true
closes (Sign m.Less) = true
closes (Sign m.Greater) = true
closes (Sign m.Colon) = true
closes (Sign m.Semicolon) = true
closes (Sign m.Comma) = true
closes (Sign m.Dot) = true
closes _ = false

abbrev pub is_word_token : Token → Bool
is_word_token (Name word) = true
is_word_token (Reserved key) = true
is_word_token _ = false

abbrev pub is_parenthesis : Token → Bool
is_parenthesis (Sign m.OpenParen) = true
is_parenthesis _ = false

-- whether a blank stands between two tokens; none stands between a word and a `(`
unfoldable pub has_gap : Token → Token → Bool
has_gap last next = (not (opens last) && not (closes next)) && not (is_word_token last && is_parenthesis next)

abbrev pub gap : Token → Token → List ℕ
gap last next = if has_gap last next then 32 ∷ [] else []

-- the bytes of tokens behind another one
unfoldable pub render_behind : Token → List Token → List ℕ
render_behind last [] = []
render_behind last (next ∷ more) = gap last next ++ (token_text next ++ render_behind next more)

-- the bytes of a line's tokens
unfoldable pub render : List Token → List ℕ
render [] = []
render (first ∷ more) = token_text first ++ render_behind first more

-- a whole line: four blanks for each open block, its tokens, a line feed
unfoldable pub render_line : ℕ → List Token → List ℕ
render_line depth tokens = replicate (4 * depth) 32 ++ (render tokens ++ 10 ∷ [])
