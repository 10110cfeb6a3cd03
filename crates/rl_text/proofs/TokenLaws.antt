-- The token at the front is the one that the definition has there.
use Rattle.std.proofs.Common.{◌≡◌, ℕ, ◌+◌, ◌<◌, ◌≤◌, ◌^◌, Bool, true, false, cond, ◌&&◌, not, eqb, leb, List, [], ◌∷◌, ◌++◌, length, get_or, Option, None, Some, inl, inr, refl, sym, ap, ◌∙◌, arith, append_assoc, length-append}
use Rattle.std.specs.Prelude.{codes, nat_eq, option_map, find}
use Rattle.std.specs.Cmp.Lexicographic.{pointwise}
use Rattle.std.specs.List.{list_all, starts_with}
use Rattle.std.specs.Char.{is_ascii_digit, digit_value}
use Rattle.std.specs.Str.Parse.{IsNumeral, AllDigits, digits_value}
use Rattle.std.proofs.lemmas.Bool.Decides.{nat_tests, Decides-eqb}
use Rattle.std.proofs.lemmas.Slice.Eq.{slice_eq-Decides}
use Rattle.std.proofs.lemmas.List.{take_at, drop_at}
use Rattle.rl_defs.specs.declared.lexeme.Key.{Key}
use Rattle.rl_defs.specs.declared.lexeme.Key.TheVariants as k
use Rattle.rl_defs.specs.declared.lexeme.Mark.{Mark}
use Rattle.rl_defs.specs.declared.lexeme.Mark.TheVariants as m
use Rattle.rl_defs.specs.Words.{is_word_byte, is_word, is_name, is_reserved, starts_word}
use Rattle.rl_defs.specs.Tokens as t
use Rattle.rl_defs.specs.Tokens.{Token, IsToken, EndsBefore, NoWordByteFirst, IsNumber, key_text, mark_text, is_text_byte, is_blank}
use Rattle.rl_text.specs.Scan.{number_at, all_keys, key_of, word_of, run_of, run_at, quoted, text_at, mark_at, token_at}
use Rattle.rl_text.proofs.Runs.{Stops, and_true, prefix_len-front}
use Rattle.rl_text.proofs.NumberLaws.{number_spelled}

pub pick : {A : Type 0} (b : Bool) (x y z : A) → b ≡ true → x ≡ z → cond b x y ≡ z
pick true x y z e f = f
pick false x y z e f = absurd cc

pub pass : {A : Type 0} (b : Bool) (x y z : A) → b ≡ false → y ≡ z → cond b x y ≡ z
pass true x y z e f = absurd cc
pass false x y z e f = f

pub not_true : (b : Bool) → not b ≡ true → b ≡ false
not_true true e = absurd cc
not_true false e = refl

-- ---- reserved words and names

pub key_here : (key : Key) → key_of (key_text key) ≡ Some key
unfolding key_of
key_here k.Pub = refl
key_here k.Struct = refl
key_here k.Trait = refl
key_here k.Fn = refl
key_here k.SelfWord = refl
key_here k.RRef = refl
key_here k.RpcResult = refl
key_here k.Dyn = refl
key_here k.Mut = refl
key_here k.Const = refl
key_here k.Box = refl
key_here k.Vec = refl
key_here k.String = refl
key_here k.Bool = refl
key_here k.U8 = refl
key_here k.U16 = refl
key_here k.U32 = refl
key_here k.U64 = refl
key_here k.Num = refl

find_step : {A : Type 0} (p : A → Bool) (x y : A) (xs : List A) (b : Bool) → p x ≡ b → ((z : A) → find p xs ≡ Some z → p z ≡ true) → cond b (Some x) (find p xs) ≡ Some y → p y ≡ true
find_step p x y xs true is later e = let same : x ≡ y = cc in rw (← same) is
find_step p x y xs false is later e = later y e

find_passes : {A : Type 0} (p : A → Bool) (xs : List A) (y : A) → find p xs ≡ Some y → p y ≡ true
find_passes p [] y e = absurd cc
find_passes p (x ∷ xs) y e = find_step p x y xs (p x) refl (find_passes p xs) e

pub key_is : (run : List ℕ) (key : Key) → key_of run ≡ Some key → key_text key ≡ run
unfolding key_of
key_is run key e = (slice_eq-Decides Decides-eqb (key_text key) run true (sym (find_passes (λ key. pointwise nat_eq (key_text key) run) all_keys key e))).0 refl

key_reserved : (key : Key) → is_reserved (key_text key) ≡ true
key_reserved k.Pub = refl
key_reserved k.Struct = refl
key_reserved k.Trait = refl
key_reserved k.Fn = refl
key_reserved k.SelfWord = refl
key_reserved k.RRef = refl
key_reserved k.RpcResult = refl
key_reserved k.Dyn = refl
key_reserved k.Mut = refl
key_reserved k.Const = refl
key_reserved k.Box = refl
key_reserved k.Vec = refl
key_reserved k.String = refl
key_reserved k.Bool = refl
key_reserved k.U8 = refl
key_reserved k.U16 = refl
key_reserved k.U32 = refl
key_reserved k.U64 = refl
key_reserved k.Num = refl

pub key_word : (key : Key) → is_word (key_text key) ≡ true
key_word k.Pub = refl
key_word k.Struct = refl
key_word k.Trait = refl
key_word k.Fn = refl
key_word k.SelfWord = refl
key_word k.RRef = refl
key_word k.RpcResult = refl
key_word k.Dyn = refl
key_word k.Mut = refl
key_word k.Const = refl
key_word k.Box = refl
key_word k.Vec = refl
key_word k.String = refl
key_word k.Bool = refl
key_word k.U8 = refl
key_word k.U16 = refl
key_word k.U32 = refl
key_word k.U64 = refl
key_word k.Num = refl

-- a name is no reserved word
name_free : (word : List ℕ) → is_name word ≡ true → (r : Option Key) → key_of word ≡ r → r ≡ None
name_free word name None e = refl
name_free word name (Some key) e =
    let p = and_true (is_word word) (not (is_reserved word)) name in
    let taken : is_reserved word ≡ true = rw (← key_is word key e) (key_reserved key) in
    let free : is_reserved word ≡ false = not_true _ p.1 in
    absurd (let f = sym taken ∙ free in cc)

pub word_of-key : (key : Key) → word_of (key_text key) ≡ Some (t.Reserved key)
unfolding word_of
word_of-key key = rw (key_here key) refl

pub word_of-name : (word : List ℕ) → is_name word ≡ true → word_of word ≡ Some (t.Name word)
unfolding word_of
word_of-name word name = rw (name_free word name (key_of word) refl) (pick _ _ _ _ name refl)

-- ---- a token that is spelled is found

no_word_byte : (rest : List ℕ) → NoWordByteFirst rest → Stops is_word_byte rest
no_word_byte [] h = tt
no_word_byte (c ∷ cs) h = not_true (is_word_byte c) h

run_at-front : (text rest : List ℕ) → list_all is_word_byte text ≡ true → NoWordByteFirst rest → run_at (text ++ rest) ≡ option_map (λ token. (token, length text)) (run_of text)
run_at-front text rest all ends = rw (prefix_len-front is_word_byte text rest all (no_word_byte rest ends), take_at text rest (length text) refl) refl

run_spelled : (c : ℕ) (cs rest : List ℕ) (token : Token) → list_all is_word_byte (c ∷ cs) ≡ true → NoWordByteFirst rest → run_of (c ∷ cs) ≡ Some token → token_at ((c ∷ cs) ++ rest) ≡ Some (token, length (c ∷ cs))
run_spelled c cs rest token all ends e =
    let w = and_true (is_word_byte c) (list_all is_word_byte cs) all in
    pick _ _ _ _ w.0 (run_at-front (c ∷ cs) rest all ends ∙ ap (option_map (λ token. (token, length (c ∷ cs)))) e)

word_spelled : (text rest : List ℕ) (token : Token) → is_word text ≡ true → NoWordByteFirst rest → word_of text ≡ Some token → token_at (text ++ rest) ≡ Some (token, length text)
word_spelled [] rest token word ends e = absurd cc
word_spelled (c ∷ cs) rest token word ends e =
    let p = and_true (starts_word (c ∷ cs) && leb (length (c ∷ cs)) 24) (list_all is_word_byte (c ∷ cs)) word in
    let q = and_true (starts_word (c ∷ cs)) (leb (length (c ∷ cs)) 24) p.0 in
    run_spelled c cs rest token p.1 ends (pass _ _ _ _ (not_true _ q.0) e)

pub digit_byte : (c : ℕ) → digit_value c < 16 → is_word_byte c ≡ true
digit_byte c h = grind (arith, nat_tests)

decimal_byte : (c : ℕ) → digit_value c < 10 → is_ascii_digit c ≡ true
decimal_byte c h = grind (arith, nat_tests)

no_x : (c : ℕ) → digit_value c < 10 → eqb 120 c ≡ false
no_x c h = grind (arith, nat_tests)

pub digits_bytes : (radix : ℕ) (cs : List ℕ) → radix ≤ 16 → AllDigits radix cs → list_all is_word_byte cs ≡ true
digits_bytes radix [] le h = refl
digits_bytes radix (c ∷ cs) le h = rw (digit_byte c (omega (arith, h.0))) (digits_bytes radix cs le h.1)

and_none : (b : Bool) → (b && false) ≡ false
and_none true = refl
and_none false = refl

no_prefix : (cs : List ℕ) → AllDigits 10 cs → starts_with nat_eq cs (codes "0x") ≡ false
no_prefix [] h = refl
no_prefix (c ∷ []) h = and_none (eqb 48 c)
no_prefix (c ∷ d ∷ cs) h = rw (no_x d h.1.0) (and_none (eqb 48 c))

decimal_spelled : (text rest : List ℕ) (n : ℕ) → IsNumeral 10 text → n ≡ digits_value 10 text → n < 2 ^ 64 → NoWordByteFirst rest → token_at (text ++ rest) ≡ Some (t.Number n, length text)
unfolding number_at
decimal_spelled [] rest n h is lt ends = absurd (omega (arith, h.0))
decimal_spelled (c ∷ cs) rest n h is lt ends =
    let value : number_at (c ∷ cs) ≡ Some n = pass _ _ _ _ (no_prefix (c ∷ cs) h.1) (number_spelled 10 (c ∷ cs) n h is lt) in
    run_spelled c cs rest (t.Number n) (digits_bytes 10 (c ∷ cs) (omega arith) h.1) ends (pick _ _ _ _ (decimal_byte c h.1.0) (ap (option_map (λ m. t.Number m)) value))

hex_spelled : (digits rest : List ℕ) (n : ℕ) → IsNumeral 16 digits → n ≡ digits_value 16 digits → n < 2 ^ 64 → NoWordByteFirst rest → token_at ((48 ∷ 120 ∷ digits) ++ rest) ≡ Some (t.Number n, length (48 ∷ 120 ∷ digits))
unfolding number_at
hex_spelled digits rest n h is lt ends =
    let value : number_at (48 ∷ 120 ∷ digits) ≡ Some n = number_spelled 16 digits n h is lt in
    run_spelled 48 (120 ∷ digits) rest (t.Number n) (digits_bytes 16 digits (omega arith) h.1) ends (ap (option_map (λ m. t.Number m)) value)

text_spelled : (inner rest : List ℕ) → list_all is_text_byte inner ≡ true → text_at (inner ++ (34 ∷ rest)) ≡ Some (t.Text inner, length inner + 2)
text_spelled inner rest all =
    let stops : Stops is_text_byte (34 ∷ rest) = refl in
    let n = prefix_len-front is_text_byte inner (34 ∷ rest) all stops in
    let q : quoted (inner ++ (34 ∷ rest)) ≡ Some (length inner) = rw (n, drop_at inner (34 ∷ rest) (length inner) refl) refl in
    rw (q, take_at inner (34 ∷ rest) (length inner) refl) refl

mark_spelled : (mark : Mark) (rest : List ℕ) → token_at (mark_text mark ++ rest) ≡ Some (t.Sign mark, length (mark_text mark))
mark_spelled m.OpenBrace rest = refl
mark_spelled m.CloseBrace rest = refl
mark_spelled m.OpenParen rest = refl
mark_spelled m.CloseParen rest = refl
mark_spelled m.OpenBracket rest = refl
mark_spelled m.CloseBracket rest = refl
mark_spelled m.Less rest = refl
mark_spelled m.Greater rest = refl
mark_spelled m.Colon rest = refl
mark_spelled m.Semicolon rest = refl
mark_spelled m.Comma rest = refl
mark_spelled m.Equals rest = refl
mark_spelled m.Dot rest = refl
mark_spelled m.Ampersand rest = refl
mark_spelled m.Star rest = refl
mark_spelled m.At rest = refl
mark_spelled m.Hash rest = refl
mark_spelled m.Arrow rest = refl

pub token_at-spelled : (token : Token) (text rest : List ℕ) → IsToken token text → EndsBefore token rest → token_at (text ++ rest) ≡ Some (token, length text)
token_at-spelled (t.Name word) text rest h ends =
    let name : is_name text ≡ true = rw h.0 h.1 in
    let p = and_true (is_word text) (not (is_reserved text)) name in
    word_spelled text rest (t.Name word) p.0 ends (word_of-name text name ∙ ap (λ (w : List ℕ). Some (t.Name w)) h.0)
token_at-spelled (t.Reserved key) text rest h ends = word_spelled text rest (t.Reserved key) (ap is_word h ∙ key_word key) ends (ap word_of h ∙ word_of-key key)
token_at-spelled (t.Number n) text rest (lt, inl (h, is)) ends = decimal_spelled text rest n h is lt ends
token_at-spelled (t.Number n) text rest (lt, inr (digits, parts, h, is)) ends = rw parts (hex_spelled digits rest n h is lt ends)
token_at-spelled (t.Text inner) text rest h ends =
    let parts : text ++ rest ≡ 34 ∷ (inner ++ (34 ∷ rest)) = rw h.0 (ap (λ (x : List ℕ). 34 ∷ x) (append_assoc inner (34 ∷ []) rest)) in
    let count : length text ≡ length inner + 2 = omega (arith, ap length h.0, length-append inner (34 ∷ [])) in
    ap token_at parts ∙ text_spelled inner rest h.1 ∙ ap (λ (n : ℕ). Some (t.Text inner, n)) (sym count)
token_at-spelled (t.Sign mark) text rest h ends = rw h (mark_spelled mark rest)

-- ---- what is found is a token

pub token_run : (bytes : List ℕ) → 0 < length bytes → is_word_byte (get_or bytes 0 0) ≡ true → token_at bytes ≡ run_at bytes
token_run [] some w = absurd (omega arith)
token_run (c ∷ cs) some w = pick _ _ _ _ w refl

pub token_mark : (bytes : List ℕ) → 0 < length bytes → is_word_byte (get_or bytes 0 0) ≡ false → (get_or bytes 0 0 ≡ 34 → ⊥) → token_at bytes ≡ mark_at bytes (get_or bytes 0 0)
token_mark [] some w q = absurd (omega arith)
token_mark (c ∷ cs) some w q = let e : eqb c 34 ≡ false = grind (arith, nat_tests) in pass _ _ _ _ w (pass _ _ _ _ e refl)
