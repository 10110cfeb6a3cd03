-- The tokens of a line.
use Rattle.std.specs.Prelude.{◌≡◌, ℕ, ◌+◌, ◌^◌, ◌<◌, ◌≤◌, ◌⊎◌, Bool, ◌&&◌, ◌||◌, ◌==◌, not, nat_le, IsTrue, List, [], ◌∷◌, ◌++◌, map, length, codes}
use Rattle.std.specs.List.{list_all}
use Rattle.std.specs.Str.Parse.{IsNumeral, digits_value}
use Rattle.rl_defs.specs.Words.{is_word_byte, is_name}
use Rattle.rl_defs.specs.Refusals.{Failing}
use Rattle.rl_defs.specs.declared.lexeme.Key.{Key}
use Rattle.rl_defs.specs.declared.lexeme.Key.TheVariants as k
use Rattle.rl_defs.specs.declared.lexeme.Mark.{Mark}
use Rattle.rl_defs.specs.declared.lexeme.Mark.TheVariants as m

-- A token: a word that isn't reserved, by its bytes; a reserved word; a number, by its value; a text, by the bytes between its
-- quotes; a mark.
pub data Token : Type 0 where
  Name : List ℕ → Token
  Reserved : Key → Token
  Number : ℕ → Token
  Text : List ℕ → Token
  Sign : Mark → Token

-- the bytes of a reserved word
abbrev pub key_text : Key → List ℕ
key_text k.Pub = codes "pub"
key_text k.Struct = codes "struct"
key_text k.Trait = codes "trait"
key_text k.Fn = codes "fn"
key_text k.SelfWord = codes "self"
key_text k.RRef = codes "RRef"
key_text k.RpcResult = codes "RpcResult"
key_text k.Dyn = codes "dyn"
key_text k.Mut = codes "mut"
key_text k.Const = codes "const"
key_text k.Box = codes "Box"
key_text k.Vec = codes "Vec"
key_text k.String = codes "String"
key_text k.Bool = codes "bool"
key_text k.U8 = codes "u8"
key_text k.U16 = codes "u16"
key_text k.U32 = codes "u32"
key_text k.U64 = codes "u64"
key_text k.Num = codes "num"

-- the bytes of a mark
abbrev pub mark_text : Mark → List ℕ
mark_text m.OpenBrace = codes "{"
mark_text m.CloseBrace = codes "}"
mark_text m.OpenParen = codes "("
mark_text m.CloseParen = codes ")"
mark_text m.OpenBracket = codes "["
mark_text m.CloseBracket = codes "]"
mark_text m.Less = codes "<"
mark_text m.Greater = codes ">"
mark_text m.Colon = codes ":"
mark_text m.Semicolon = codes ";"
mark_text m.Comma = codes ","
mark_text m.Equals = codes "="
mark_text m.Dot = codes "."
mark_text m.Ampersand = codes "&"
mark_text m.Star = codes "*"
mark_text m.At = codes "@"
mark_text m.Hash = codes "#"
mark_text m.Arrow = codes "->"

-- a blank or a TAB
abbrev pub is_blank : ℕ → Bool
is_blank c = (c == 32) || (c == 9)

-- a byte that may stand in a line: a TAB, or one from 0x20 to 0x7E
abbrev pub is_line_byte : ℕ → Bool
is_line_byte c = (c == 9) || (nat_le 0x20 c && nat_le c 0x7e)

-- a byte that may stand in a text: one from 0x20 to 0x7E other than a quote
abbrev pub is_text_byte : ℕ → Bool
is_text_byte c = (nat_le 0x20 c && nat_le c 0x7e) && not (c == 34)

-- decimal digits, or `0x` and hexadecimal digits of either case, of a value that fits 64 bits
abbrev pub IsNumber : List ℕ → ℕ → Type 0
IsNumber bytes n =
    (n < 2 ^ 64) × ((IsNumeral 10 bytes × (n ≡ digits_value 10 bytes))
    ⊎ ((digits : List ℕ) × (bytes ≡ codes "0x" ++ digits) × IsNumeral 16 digits × (n ≡ digits_value 16 digits)))

-- the bytes of a token
abbrev pub IsToken : Token → List ℕ → Type 0
IsToken (Name word) bytes = (bytes ≡ word) × IsTrue (is_name word)
IsToken (Reserved key) bytes = bytes ≡ key_text key
IsToken (Number n) bytes = IsNumber bytes n
IsToken (Text inner) bytes = (bytes ≡ 34 ∷ inner ++ 34 ∷ []) × IsTrue (list_all is_text_byte inner)
IsToken (Sign mark) bytes = bytes ≡ mark_text mark

-- no letter, digit or `_` comes first
abbrev pub NoWordByteFirst : List ℕ → Type 0
NoWordByteFirst [] = Unit {0}
NoWordByteFirst (c ∷ cs) = IsTrue (not (is_word_byte c))

-- A word or a number goes on as far as letters, digits and `_` do.
abbrev pub EndsBefore : Token → List ℕ → Type 0
EndsBefore (Name word) rest = NoWordByteFirst rest
EndsBefore (Reserved key) rest = NoWordByteFirst rest
EndsBefore (Number n) rest = NoWordByteFirst rest
EndsBefore _ rest = Unit {0}

-- nothing, or a comment
abbrev pub IsComment : List ℕ → Type 0
IsComment bytes = (bytes ≡ []) ⊎ ((more : List ℕ) × (bytes ≡ codes "//" ++ more))

-- A token with its place: the place of its first byte, and the one behind its last.
pub record Placed : Type 0 where
  pub token : Token
  pub start : ℕ
  pub stop : ℕ

-- The bytes from a place on are blanks, the token, and the rest.
pub record BeginsWith (p : Placed) (place : ℕ) (bytes gap text rest : List ℕ) : Type 0 where
  pub parts : bytes ≡ gap ++ (text ++ rest)
  pub blank : IsTrue (list_all is_blank gap)
  pub token : IsToken p.token text
  pub ends : EndsBefore p.token rest
  pub start : p.start ≡ place + length gap
  pub stop : p.stop ≡ place + length gap + length text

-- The bytes from a place on are blanks, and maybe a comment.
pub record IsBare (bytes gap last : List ℕ) : Type 0 where
  pub parts : bytes ≡ gap ++ last
  pub blank : IsTrue (list_all is_blank gap)
  pub comment : IsComment last

-- The bytes from a place on have these tokens: blanks and TABs stand before each, and at the end a comment may stand.
abbrev pub ArePlaced : ℕ → List Placed → List ℕ → Type 0
ArePlaced place [] bytes = (gap : List ℕ) × (last : List ℕ) × IsBare bytes gap last
ArePlaced place (p ∷ ps) bytes = (gap : List ℕ) × (text : List ℕ) × (rest : List ℕ) × BeginsWith p place bytes gap text rest × ArePlaced p.stop ps rest

-- A line has at most 2,048 bytes, each of which may stand in a line.
pub record IsLine (line : List ℕ) : Type 0 where
  pub short : length line ≤ 2048
  pub bytes : IsTrue (list_all is_line_byte line)

-- A line has these tokens at these places of it.
pub record HasPlaced (ps : List Placed) (line : List ℕ) : Type 0 where
  pub fits : IsLine line
  pub tokens : ArePlaced 0 ps line

abbrev pub tokens_of : List Placed → List Token
tokens_of ps = map (λ p. p.token) ps

-- A line has these tokens.
abbrev pub HasTokens : List Token → List ℕ → Type 0
HasTokens ts line = (ps : List Placed) × (tokens_of ps ≡ ts) × HasPlaced ps line

-- A line without tokens is skipped.
abbrev pub IsSkipped : List ℕ → Type 0
IsSkipped line = HasTokens [] line

-- rule 1: The line breaks a sentence on lines and tokens, so that it has none.
abbrev pub FailsTokens : ℕ → List ℕ → Failing
FailsTokens number text line rule = (line ≡ number) × (rule ≡ 1) × ((ts : List Token) → HasTokens ts text → ⊥)
