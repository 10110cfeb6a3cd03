-- Reading parts of a line from the front of its tokens.
use Rattle.std.specs.Prelude.{◌≡◌, ℕ, Bool, true, false, ◌==◌, List, [], ◌∷◌, Option, None, Some, Result, Ok, Err, if◌then◌else◌}
use Rattle.std.specs.Cmp.Lexicographic.{pointwise}
use Rattle.rl_defs.specs.declared.lexeme.Key.{Key}
use Rattle.rl_defs.specs.declared.lexeme.Key.TheVariants as k
use Rattle.rl_defs.specs.declared.lexeme.Mark.{Mark}
use Rattle.rl_defs.specs.declared.lexeme.Mark.TheVariants as m
use Rattle.rl_defs.specs.Tokens.{Token, Name, Reserved, Number, Text, Sign}
use Rattle.rl_text.specs.declared.cursor.Stop.{Stop}
use Rattle.rl_text.specs.declared.cursor.Stop.TheVariants.{NoForm, Memory}

-- what a reader gives: a part, and the tokens behind it
abbrev pub Reader : Type 0 → Type 0
Reader A = List Token → Option (A × List Token)

-- What a call returned, as it is seen, with the tokens that it left, is what reading gives. Want of memory is free.
abbrev pub Gives : {X Y : Type 0} → (X → Y) → Result X Stop → List Token → Option (Y × List Token) → Type 0
Gives view (Ok x) left read = read ≡ Some (view x, left)
Gives view (Err NoForm) left read = read ≡ None
Gives view (Err Memory) left read = Unit {0}

-- the same of a call that returns nothing
abbrev pub Passes : {X : Type 0} → Result X Stop → List Token → Option (List Token) → Type 0
Passes (Ok x) left read = read ≡ Some left
Passes (Err NoForm) left read = read ≡ None
Passes (Err Memory) left read = Unit {0}

infixl 10 ◌>>=◌
abbrev pub ◌>>=◌ : {A B : Type 0} → Option A → (A → Option B) → Option B
None >>= f = None
(Some x) >>= f = f x

-- the first reading where it is there, and else the other one
abbrev pub either : {A B : Type 0} → Option A → (A → Option B) → Option B → Option B
either None f other = other
either (Some x) f other = f x

-- a number of its own for each
abbrev pub key_place : Key → ℕ
key_place k.Pub = 0
key_place k.Struct = 1
key_place k.Trait = 2
key_place k.Fn = 3
key_place k.SelfWord = 4
key_place k.RRef = 5
key_place k.RpcResult = 6
key_place k.Dyn = 7
key_place k.Mut = 8
key_place k.Const = 9
key_place k.Box = 10
key_place k.Vec = 11
key_place k.String = 12
key_place k.Bool = 13
key_place k.U8 = 14
key_place k.U16 = 15
key_place k.U32 = 16
key_place k.U64 = 17
key_place k.Num = 18

abbrev pub same_key : Key → Key → Bool
same_key a b = key_place a == key_place b

-- a number of its own for each
abbrev pub mark_place : Mark → ℕ
mark_place m.OpenBrace = 0
mark_place m.CloseBrace = 1
mark_place m.OpenParen = 2
mark_place m.CloseParen = 3
mark_place m.OpenBracket = 4
mark_place m.CloseBracket = 5
mark_place m.Less = 6
mark_place m.Greater = 7
mark_place m.Colon = 8
mark_place m.Semicolon = 9
mark_place m.Comma = 10
mark_place m.Equals = 11
mark_place m.Dot = 12
mark_place m.Ampersand = 13
mark_place m.Star = 14
mark_place m.At = 15
mark_place m.Hash = 16
mark_place m.Arrow = 17

abbrev pub same_mark : Mark → Mark → Bool
same_mark a b = mark_place a == mark_place b

-- a word that isn't reserved
unfoldable pub name_at : Reader (List ℕ)
name_at (Name word ∷ rest) = Some (word, rest)
name_at _ = None

unfoldable pub number_at : Reader ℕ
number_at (Number n ∷ rest) = Some (n, rest)
number_at _ = None

-- a text, by its bytes
unfoldable pub text_at : Reader (List ℕ)
text_at (Text inner ∷ rest) = Some (inner, rest)
text_at _ = None

-- this mark
unfoldable pub mark_at : Mark → List Token → Option (List Token)
mark_at mark (Sign other ∷ rest) = if same_mark other mark then Some rest else None
mark_at mark _ = None

-- this reserved word
unfoldable pub key_at : Key → List Token → Option (List Token)
key_at key (Reserved other ∷ rest) = if same_key other key then Some rest else None
key_at key _ = None

-- this word, which isn't reserved
unfoldable pub word_at : List ℕ → List Token → Option (List Token)
word_at word (Name other ∷ rest) = if pointwise ◌==◌ other word then Some rest else None
word_at word _ = None

-- nothing more
unfoldable pub end_at : List Token → Option (List Token)
end_at [] = Some []
end_at _ = None

-- the reserved word that comes first
abbrev pub first_key : List Token → Option Key
first_key (Reserved key ∷ rest) = Some key
first_key _ = None

-- a number comes first
abbrev pub begins_number : List Token → Bool
begins_number (Number n ∷ rest) = true
begins_number _ = false

-- this word comes first, which isn't reserved
abbrev pub begins_word : List ℕ → List Token → Bool
begins_word word (Name other ∷ rest) = pointwise ◌==◌ other word
begins_word word _ = false

-- what stands behind the first token
abbrev pub behind_first : List Token → List Token
behind_first [] = []
behind_first (token ∷ rest) = rest

-- nothing is left
abbrev pub none_left : List Token → Bool
none_left [] = true
none_left (token ∷ rest) = false
