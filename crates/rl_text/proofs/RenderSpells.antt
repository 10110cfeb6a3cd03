-- Tokens that are written in the canonical spelling are read again.
use Rattle.std.proofs.Common.{◌≡◌, ℕ, ◌+◌, ◌-◌, ◌<◌, ◌≤◌, inl, Bool, true, false, cond, ◌&&◌, not, List, [], ◌∷◌, ◌++◌, length, refl, sym, ap, subst, ◌∙◌, arith, append_assoc, length-append}
use Rattle.std.specs.Prelude.{slice_range}
use Rattle.std.specs.Fmt.{decimal}
use Rattle.std.specs.Char.{digit_value}
use Rattle.std.specs.List.{list_all}
use Rattle.std.specs.Str.Parse.{AllDigits}
use Rattle.std.proofs.lemmas.Bool.Decides.{nat_tests}
use Rattle.std.proofs.lemmas.Fmt.{decimal_is_IsNumeral}
use Rattle.std.proofs.lemmas.List.{take_at, drop_at}
use Rattle.std.proofs.lemmas.List.Folds.{list_all-append}
use Rattle.rl_defs.specs.declared.lexeme.Mark.{Mark}
use Rattle.rl_defs.specs.declared.lexeme.Mark.TheVariants as m
use Rattle.rl_defs.specs.Words.{is_word, is_word_byte, is_reserved}
use Rattle.rl_defs.specs.Tokens.{Token, Name, Reserved, Number, Text, Sign, Placed, IsToken, EndsBefore, NoWordByteFirst, ArePlaced, HasTokens, tokens_of, key_text, mark_text, is_blank, is_line_byte, is_text_byte}
use Rattle.rl_text.specs.Canonical.{token_text, opens, is_word_token, has_gap, gap, render_behind, render}
use Rattle.rl_defs.specs.DomainForms.{IsDecimal, AreDecimal, HasDecimals}
use Rattle.rl_text.proofs.Runs.{and_true}
use Rattle.rl_text.proofs.TokenLaws.{key_word}
use Rattle.rl_text.proofs.ReadingLaws.{placed}
use Rattle.rl_text.specs.Writable.{IsWritable, AreWritable}

-- ---- a token's own bytes

own_bytes : (token : Token) → IsWritable token → IsToken token (token_text token)
own_bytes (Name word) h = (refl, h)
own_bytes (Reserved key) h = refl
own_bytes (Number n) h = let d = decimal_is_IsNumeral n h in (h, inl (d.0, sym d.1))
own_bytes (Text inner) h = (refl, h)
own_bytes (Sign mark) h = refl

-- ---- where a token ends

mark_first : (mark : Mark) (rest : List ℕ) → NoWordByteFirst (mark_text mark ++ rest)
mark_first m.OpenBrace rest = refl
mark_first m.CloseBrace rest = refl
mark_first m.OpenParen rest = refl
mark_first m.CloseParen rest = refl
mark_first m.OpenBracket rest = refl
mark_first m.CloseBracket rest = refl
mark_first m.Less rest = refl
mark_first m.Greater rest = refl
mark_first m.Colon rest = refl
mark_first m.Semicolon rest = refl
mark_first m.Comma rest = refl
mark_first m.Equals rest = refl
mark_first m.Dot rest = refl
mark_first m.Ampersand rest = refl
mark_first m.Star rest = refl
mark_first m.At rest = refl
mark_first m.Hash rest = refl
mark_first m.Arrow rest = refl

-- behind a word or a number stands a blank, or a mark
abbrev Whole : Token → Type 0
Whole last = opens last ≡ false

first_free : (last next : Token) (rest : List ℕ) (b : Bool) → Whole last → has_gap last next ≡ b → NoWordByteFirst (cond b (32 ∷ []) [] ++ (token_text next ++ rest))
unfolding has_gap
first_free last next rest true w e = refl
first_free last (Name word) rest false w e = absurd (let f = rw w at e in none_false (is_word_token last) f) where
  none_false : (b : Bool) → (true && not (b && false)) ≡ false → ⊥
  none_false true f = cc
  none_false false f = cc
first_free last (Reserved key) rest false w e = absurd (let f = rw w at e in none_false (is_word_token last) f) where
  none_false : (b : Bool) → (true && not (b && false)) ≡ false → ⊥
  none_false true f = cc
  none_false false f = cc
first_free last (Number n) rest false w e = absurd (let f = rw w at e in none_false (is_word_token last) f) where
  none_false : (b : Bool) → (true && not (b && false)) ≡ false → ⊥
  none_false true f = cc
  none_false false f = cc
first_free last (Text inner) rest false w e = refl
first_free last (Sign mark) rest false w e = mark_first mark rest

ends_behind : (token : Token) (rest : List Token) → EndsBefore token (render_behind token rest)
unfolding render_behind
ends_behind (Name word) [] = tt
ends_behind (Name word) (next ∷ more) = first_free (Name word) next (render_behind next more) _ refl refl
ends_behind (Reserved key) [] = tt
ends_behind (Reserved key) (next ∷ more) = first_free (Reserved key) next (render_behind next more) _ refl refl
ends_behind (Number n) [] = tt
ends_behind (Number n) (next ∷ more) = first_free (Number n) next (render_behind next more) _ refl refl
ends_behind (Text inner) rest = tt
ends_behind (Sign mark) rest = tt

-- ---- tokens one behind the other

gap_blank : (b : Bool) → list_all is_blank (cond b (32 ∷ []) []) ≡ true
gap_blank true = refl
gap_blank false = refl

-- The bytes from a place on have these tokens, and their numbers are written in decimal digits.
pub record Spells (place : ℕ) (ts : List Token) (bytes : List ℕ) : Type 0 where
  pub ps : List Placed
  pub tokens : tokens_of ps ≡ ts
  pub are : ArePlaced place ps bytes
  pub decimal : (before : List ℕ) → length before ≡ place → AreDecimal (before ++ bytes) ps

own_decimal : (token : Token) (text : List ℕ) (start stop : ℕ) → IsWritable token → slice_range text start stop ≡ token_text token → IsDecimal text token start stop
own_decimal (Name word) text start stop h e = tt
own_decimal (Reserved key) text start stop h e = tt
own_decimal (Number n) text start stop h e = let d = decimal_is_IsNumeral n h in rw e d.0
own_decimal (Text inner) text start stop h e = tt
own_decimal (Sign mark) text start stop h e = tt

in_the_middle : (before here behind : List ℕ) (start stop : ℕ) → start ≡ length before → stop ≡ length before + length here → slice_range (before ++ (here ++ behind)) start stop ≡ here
in_the_middle before here behind start stop from to =
    let n : stop - start ≡ length here = omega (arith, from, to) in
    rw (n, drop_at before (here ++ behind) start (sym from)) (take_at here behind (length here) refl)

one_decimal : (place : ℕ) (token : Token) (front bytes before : List ℕ) (ps : List Placed) → length before ≡ place → IsWritable token → ((all : List ℕ) → length all ≡ place + length front + length (token_text token) → AreDecimal (all ++ bytes) ps) → AreDecimal (before ++ (front ++ (token_text token ++ bytes))) (placed token (place + length front) (place + length front + length (token_text token)) ∷ ps)
one_decimal place token front bytes before ps at valid more =
    let text : List ℕ = token_text token in
    let near : before ++ (front ++ (text ++ bytes)) ≡ (before ++ front) ++ (text ++ bytes) = sym (append_assoc before front (text ++ bytes)) in
    let far : before ++ (front ++ (text ++ bytes)) ≡ ((before ++ front) ++ text) ++ bytes = near ∙ sym (append_assoc (before ++ front) text bytes) in
    let long : length (before ++ front) ≡ place + length front = omega (arith, length-append before front, at) in
    let whole : length ((before ++ front) ++ text) ≡ place + length front + length text = omega (arith, length-append (before ++ front) text, long) in
    let here : slice_range (before ++ (front ++ (text ++ bytes))) (place + length front) (place + length front + length text) ≡ text =
    ap (λ (x : List ℕ). slice_range x (place + length front) (place + length front + length text)) near ∙ in_the_middle (before ++ front) text bytes (place + length front) (place + length front + length text) (sym long) (ap (λ (n : ℕ). n + length text) (sym long)) in (
      own_decimal token (before ++ (front ++ (text ++ bytes))) (place + length front) (place + length front + length text) valid here,
      subst (λ (x : List ℕ). AreDecimal x ps) (sym far) (more ((before ++ front) ++ text) whole),
    )

one_spells : (place : ℕ) (token : Token) (ts : List Token) (front bytes : List ℕ) → list_all is_blank front ≡ true → IsWritable token → EndsBefore token bytes → Spells (place + length front + length (token_text token)) ts bytes → Spells place (token ∷ ts) (front ++ (token_text token ++ bytes))
one_spells place token ts front bytes blank valid ends more =
    let p : Placed = placed token (place + length front) (place + length front + length (token_text token)) in
    record {
      ps = p ∷ more.ps;
      tokens = ap (λ (x : List Token). token ∷ x) more.tokens;
      are = (front, token_text token, bytes, record { parts = refl; blank = blank; token = own_bytes token valid; ends = ends; start = refl; stop = refl }, more.are);
      decimal = λ before at. one_decimal place token front bytes before more.ps at valid more.decimal;
    }

behind_spells : (place : ℕ) (last : Token) (ts : List Token) → AreWritable ts → Spells place ts (render_behind last ts)
unfolding render_behind
behind_spells place last [] h = record { ps = []; tokens = refl; are = ([], [], record { parts = refl; blank = refl; comment = inl refl }); decimal = λ before at. tt }
behind_spells place last (next ∷ ts) h =
    one_spells place next ts (gap last next) (render_behind next ts) (gap_blank (has_gap last next)) h.0 (ends_behind next ts) (behind_spells (place + length (gap last next) + length (token_text next)) next ts h.1)

pub render_spells : (ts : List Token) → AreWritable ts → Spells 0 ts (render ts)
unfolding render
render_spells [] h = record { ps = []; tokens = refl; are = ([], [], record { parts = refl; blank = refl; comment = inl refl }); decimal = λ before at. tt }
render_spells (first ∷ ts) h = one_spells 0 first ts [] (render_behind first ts) refl h.0 (ends_behind first ts) (behind_spells (0 + 0 + length (token_text first)) first ts h.1)

-- ---- the bytes of a line

word_bytes : (c : ℕ) → is_word_byte c ≡ true → is_line_byte c ≡ true
word_bytes c h = grind (arith, nat_tests)

pub words_bytes : (cs : List ℕ) → list_all is_word_byte cs ≡ true → list_all is_line_byte cs ≡ true
words_bytes [] h = refl
words_bytes (c ∷ cs) h = let p = and_true (is_word_byte c) (list_all is_word_byte cs) h in rw (word_bytes c p.0) (words_bytes cs p.1)

text_byte : (c : ℕ) → is_text_byte c ≡ true → is_line_byte c ≡ true
text_byte c h = grind (arith, nat_tests)

pub text_bytes : (cs : List ℕ) → list_all is_text_byte cs ≡ true → list_all is_line_byte cs ≡ true
text_bytes [] h = refl
text_bytes (c ∷ cs) h = let p = and_true (is_text_byte c) (list_all is_text_byte cs) h in rw (text_byte c p.0) (text_bytes cs p.1)

digit_byte : (c : ℕ) → digit_value c < 10 → is_line_byte c ≡ true
digit_byte c h = grind (arith, nat_tests)

digit_bytes : (cs : List ℕ) → AllDigits 10 cs → list_all is_line_byte cs ≡ true
digit_bytes [] h = refl
digit_bytes (c ∷ cs) h = rw (digit_byte c h.0) (digit_bytes cs h.1)

pub mark_bytes : (mark : Mark) → list_all is_line_byte (mark_text mark) ≡ true
mark_bytes m.OpenBrace = refl
mark_bytes m.CloseBrace = refl
mark_bytes m.OpenParen = refl
mark_bytes m.CloseParen = refl
mark_bytes m.OpenBracket = refl
mark_bytes m.CloseBracket = refl
mark_bytes m.Less = refl
mark_bytes m.Greater = refl
mark_bytes m.Colon = refl
mark_bytes m.Semicolon = refl
mark_bytes m.Comma = refl
mark_bytes m.Equals = refl
mark_bytes m.Dot = refl
mark_bytes m.Ampersand = refl
mark_bytes m.Star = refl
mark_bytes m.At = refl
mark_bytes m.Hash = refl
mark_bytes m.Arrow = refl

pub is_word_bytes : (word : List ℕ) → is_word word ≡ true → list_all is_line_byte word ≡ true
is_word_bytes word h = words_bytes word (and_true _ (list_all is_word_byte word) h).1

token_bytes : (token : Token) → IsWritable token → list_all is_line_byte (token_text token) ≡ true
token_bytes (Name word) h = is_word_bytes word (and_true (is_word word) (not (is_reserved word)) h).0
token_bytes (Reserved key) h = is_word_bytes (key_text key) (key_word key)
token_bytes (Number n) h = digit_bytes (decimal n) (decimal_is_IsNumeral n h).0.1
token_bytes (Text inner) h = list_all-append is_line_byte inner (34 ∷ []) ∙ rw (text_bytes inner h) refl
token_bytes (Sign mark) h = mark_bytes mark

pub both_bytes : (xs ys : List ℕ) → list_all is_line_byte xs ≡ true → list_all is_line_byte ys ≡ true → list_all is_line_byte (xs ++ ys) ≡ true
both_bytes xs ys a b = list_all-append is_line_byte xs ys ∙ rw (a, b) refl

gap_bytes : (b : Bool) → list_all is_line_byte (cond b (32 ∷ []) []) ≡ true
gap_bytes true = refl
gap_bytes false = refl

behind_bytes : (last : Token) (ts : List Token) → AreWritable ts → list_all is_line_byte (render_behind last ts) ≡ true
unfolding render_behind
behind_bytes last [] h = refl
behind_bytes last (next ∷ ts) h = both_bytes (gap last next) (token_text next ++ render_behind next ts) (gap_bytes (has_gap last next)) (both_bytes (token_text next) (render_behind next ts) (token_bytes next h.0) (behind_bytes next ts h.1))

render_bytes : (ts : List Token) → AreWritable ts → list_all is_line_byte (render ts) ≡ true
unfolding render
render_bytes [] h = refl
render_bytes (first ∷ ts) h = both_bytes (token_text first) (render_behind first ts) (token_bytes first h.0) (behind_bytes first ts h.1)

-- a line that is written has the tokens that were written, where it is no longer than a line may be
pub render_has : (ts : List Token) → AreWritable ts → length (render ts) ≤ 2048 → HasTokens ts (render ts)
render_has ts h le = let s = render_spells ts h in (s.ps, s.tokens, record { fits = record { short = le; bytes = render_bytes ts h }; tokens = s.are })

front_spells : (front : List ℕ) (ts : List Token) → list_all is_blank front ≡ true → AreWritable ts → Spells 0 ts (front ++ render ts)
unfolding render
front_spells front [] blank h = record { ps = []; tokens = refl; are = (front, [], record { parts = refl; blank = blank; comment = inl refl }); decimal = λ before at. tt }
front_spells front (first ∷ ts) blank h = one_spells 0 first ts front (render_behind first ts) blank h.0 (ends_behind first ts) (behind_spells (0 + length front + length (token_text first)) first ts h.1)

blank_byte : (c : ℕ) → is_blank c ≡ true → is_line_byte c ≡ true
blank_byte c h = grind (arith, nat_tests)

pub blank_bytes : (cs : List ℕ) → list_all is_blank cs ≡ true → list_all is_line_byte cs ≡ true
blank_bytes [] h = refl
blank_bytes (c ∷ cs) h = let p = and_true (is_blank c) (list_all is_blank cs) h in rw (blank_byte c p.0) (blank_bytes cs p.1)

pub front_bytes : (front : List ℕ) (ts : List Token) → list_all is_blank front ≡ true → AreWritable ts → list_all is_line_byte (front ++ render ts) ≡ true
front_bytes front ts blank h = both_bytes front (render ts) (blank_bytes front blank) (render_bytes ts h)

-- the same behind blanks
pub front_has : (front : List ℕ) (ts : List Token) → list_all is_blank front ≡ true → AreWritable ts → length (front ++ render ts) ≤ 2048 → HasTokens ts (front ++ render ts)
front_has front ts blank h le = let s = front_spells front ts blank h in (s.ps, s.tokens, record { fits = record { short = le; bytes = front_bytes front ts blank h }; tokens = s.are })

-- its numbers are written in decimal digits
pub front_decimal : (front : List ℕ) (ts : List Token) → list_all is_blank front ≡ true → AreWritable ts → length (front ++ render ts) ≤ 2048 → HasDecimals (front ++ render ts)
front_decimal front ts blank h le = let s = front_spells front ts blank h in (s.ps, record { fits = record { short = le; bytes = front_bytes front ts blank h }; tokens = s.are }, s.decimal [] refl)
