-- The token at the front of bytes, as it is found from the left.
use Rattle.std.specs.Prelude.{ℕ, ◌+◌, ◌^◌, Bool, ◌&&◌, ◌||◌, ◌==◌, nat_lt, nat_eq, List, [], ◌∷◌, length, take, drop, Option, None, Some, option_map, find, if◌then◌else◌, codes}
use Rattle.std.specs.List.{list_all, prefix_len, starts_with}
use Rattle.std.specs.Cmp.Lexicographic.{pointwise}
use Rattle.std.specs.Char.{digit_value, is_ascii_digit}
use Rattle.std.specs.Str.Parse.{digits_value}
use Rattle.rl_defs.specs.declared.lexeme.Key.{Key}
use Rattle.rl_defs.specs.declared.lexeme.Key.TheVariants as k
use Rattle.rl_defs.specs.declared.lexeme.Mark.{Mark}
use Rattle.rl_defs.specs.declared.lexeme.Mark.TheVariants as m
use Rattle.rl_defs.specs.Words.{is_word_byte, is_name}
use Rattle.rl_defs.specs.Tokens as t
use Rattle.rl_defs.specs.Tokens.{Token, key_text, mark_text, is_blank, is_text_byte}

-- how many blanks and TABs come first
abbrev pub blanks : List ℕ → ℕ
blanks bytes = prefix_len is_blank bytes

-- nothing or a comment comes first
abbrev pub is_end : List ℕ → Bool
is_end bytes = (length bytes == 0) || starts_with nat_eq bytes (codes "//")

-- the number that digits of a radix stand for, where it fits
unfoldable pub number_of : ℕ → List ℕ → Option ℕ
number_of radix digits =
    if nat_lt 0 (length digits) && list_all (λ c. nat_lt (digit_value c) radix) digits
    then (if nat_lt (digits_value radix digits) (2 ^ 64) then Some (digits_value radix digits) else None)
    else None

-- the number that a run of letters, digits and `_` stands for
unfoldable pub number_at : List ℕ → Option ℕ
number_at run = if starts_with nat_eq run (codes "0x") then number_of 16 (drop 2 run) else number_of 10 run

abbrev pub all_keys : List Key
all_keys = k.Pub ∷ k.Struct ∷ k.Trait ∷ k.Fn ∷ k.SelfWord ∷ k.RRef ∷ k.RpcResult ∷ k.Dyn ∷ k.Mut ∷ k.Const ∷ k.Box ∷ k.Vec ∷ k.String ∷ k.Bool ∷ k.U8 ∷ k.U16 ∷ k.U32 ∷ k.U64 ∷ k.Num ∷ []

-- the reserved word of these bytes
unfoldable pub key_of : List ℕ → Option Key
key_of run = find (λ key. pointwise ◌==◌ (key_text key) run) all_keys

-- the one word of a number type that a run can be, by the byte behind its `u`
abbrev pub likely_width : List ℕ → Option Key
likely_width [] = None
likely_width (c ∷ cs) = if c == 56 then Some k.U8 else (if c == 49 then Some k.U16 else (if c == 51 then Some k.U32 else (if c == 54 then Some k.U64 else None)))

-- the one reserved word that a run can be, by its first bytes and its length
abbrev pub likely_key : List ℕ → Option Key
likely_key [] = None
likely_key (c ∷ cs) =
    if c == 112 then Some k.Pub else (if c == 115 then (if length cs == 3 then Some k.SelfWord else Some k.Struct) else
    (if c == 116 then Some k.Trait else (if c == 102 then Some k.Fn else (if c == 82 then (if length cs == 3 then Some k.RRef else Some k.RpcResult) else
    (if c == 100 then Some k.Dyn else (if c == 109 then Some k.Mut else (if c == 99 then Some k.Const else (if c == 66 then Some k.Box else
    (if c == 86 then Some k.Vec else (if c == 83 then Some k.String else (if c == 98 then Some k.Bool else (if c == 117 then likely_width cs else
    (if c == 110 then Some k.Num else None)))))))))))))

-- the word of a run
unfoldable pub word_of : List ℕ → Option Token
word_of run = named (key_of run) where
  named : Option Key → Option Token
  named (Some key) = Some (t.Reserved key)
  named None = if is_name run then Some (t.Name run) else None

-- what a run of letters, digits and `_` is: a number where it begins with a digit, else a word
abbrev pub run_of : List ℕ → Option Token
run_of [] = None
run_of (c ∷ cs) = if is_ascii_digit c then option_map (λ n. t.Number n) (number_at (c ∷ cs)) else word_of (c ∷ cs)

-- the mark of one byte
abbrev pub sign_of : ℕ → Option Mark
sign_of c =
    if c == 123 then Some m.OpenBrace else (if c == 125 then Some m.CloseBrace else (if c == 40 then Some m.OpenParen else
    (if c == 41 then Some m.CloseParen else (if c == 91 then Some m.OpenBracket else (if c == 93 then Some m.CloseBracket else
    (if c == 60 then Some m.Less else (if c == 62 then Some m.Greater else (if c == 58 then Some m.Colon else
    (if c == 59 then Some m.Semicolon else (if c == 44 then Some m.Comma else (if c == 61 then Some m.Equals else
    (if c == 46 then Some m.Dot else (if c == 38 then Some m.Ampersand else (if c == 42 then Some m.Star else
    (if c == 64 then Some m.At else (if c == 35 then Some m.Hash else None))))))))))))))))

-- a token, and how many bytes it takes
abbrev pub Found : Type 0
Found = Token × ℕ

abbrev pub run_at : List ℕ → Option Found
run_at bytes = option_map (λ token. (token, prefix_len is_word_byte bytes)) (run_of (take (prefix_len is_word_byte bytes) bytes))

-- how many bytes of a text stand behind its first quote
abbrev pub quoted : List ℕ → Option ℕ
quoted rest = if starts_with nat_eq (drop (prefix_len is_text_byte rest) rest) (codes "\"") then Some (prefix_len is_text_byte rest) else None

abbrev pub text_at : List ℕ → Option Found
text_at rest = option_map (λ n. (t.Text (take n rest), n + 2)) (quoted rest)

abbrev pub mark_at : List ℕ → ℕ → Option Found
mark_at bytes first = if starts_with nat_eq bytes (codes "->") then Some (t.Sign m.Arrow, 2) else option_map (λ mark. (t.Sign mark, 1)) (sign_of first)

-- the token at the front
abbrev pub token_at : List ℕ → Option Found
token_at [] = None
token_at (c ∷ cs) = if is_word_byte c then run_at (c ∷ cs) else (if c == 34 then text_at cs else mark_at (c ∷ cs) c)
