-- Lexemes as tokens.
use Rattle.std.specs.Prelude.{◌≡◌, ℕ, List, Option, None, Some, slice_range}
use Rattle.rl_defs.specs.Tokens as t
use Rattle.rl_defs.specs.Tokens.{Token}
use Rattle.rl_text.specs.declared.lexeme.Lexeme.{Lexeme}
use Rattle.rl_text.specs.declared.lexeme.Lexeme.TheVariants.{Word, Key, Number, Text, Mark}
use Rattle.rl_text.specs.declared.scan.Front.{Front}

-- the token of a line that a lexeme stands for
abbrev pub token_of : List ℕ → Lexeme → Token
token_of line (Word name) = t.Name name
token_of line (Key key) = t.Reserved key
token_of line (Number n) = t.Number n
token_of line (Text start stop) = t.Text (slice_range line start stop)
token_of line (Mark mark) = t.Sign mark

-- A lexeme that isn't a text stands for what was read, or there is none.
abbrev pub GivesToken : Option Lexeme → Option Token → Type 0
GivesToken None read = read ≡ None
GivesToken (Some lexeme) read = (line : List ℕ) → read ≡ Some (token_of line lexeme)

-- A lexeme and its count of bytes are what was read, or there is none.
abbrev pub Scans : List ℕ → Option Front → Option (Token × ℕ) → Type 0
Scans line None read = read ≡ None
Scans line (Some s) read = read ≡ Some (token_of line s.lexeme, s.count)
