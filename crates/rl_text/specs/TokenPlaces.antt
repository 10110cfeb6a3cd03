-- Tokens by their places in a text.
use Rattle.std.specs.Prelude.{◌≡◌, ℕ, ◌+◌, List, map}
use Rattle.rl_defs.specs.Tokens as t
use Rattle.rl_defs.specs.Tokens.{Placed, HasPlaced}
use Rattle.rl_text.specs.declared.line.Line.{Line}
use Rattle.rl_text.specs.declared.token.Token.{Token}
use Rattle.rl_text.specs.declared.token.TokenKind.{TokenKind}
use Rattle.rl_text.specs.declared.token.TokenKind.TheVariants.{Word, Number, Text, Mark}
use Rattle.rl_text.specs.Places.{text_of}

-- the kind of a token; a reserved word is a word
abbrev pub kind_of : t.Token → TokenKind
kind_of (t.Name word) = Word
kind_of (t.Reserved key) = Word
kind_of (t.Number n) = Number n
kind_of (t.Text inner) = Text
kind_of (t.Sign mark) = Mark

-- a token of a line that begins at a place of the text
abbrev pub span_of : ℕ → Placed → Token
span_of place p = record { kind = kind_of p.token; start = place + p.start; «end» = place + p.stop }

-- These are the tokens of the line, in order, with their kinds and places.
abbrev pub AreTokens : List ℕ → Line → List Token → Type 0
AreTokens bytes line items = (ps : List Placed) × HasPlaced ps (text_of bytes line) × (items ≡ map (span_of line.start) ps)
