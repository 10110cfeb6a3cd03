-- Reading a line from the left, and that it has one list of tokens.
use Rattle.std.proofs.Common.{◌≡◌, ℕ, ◌+◌, true, false, ◌&&◌, not, eqb, List, [], ◌∷◌, ◌++◌, length, take, drop, None, Some, inl, inr, refl, sym, ap, subst, ◌∙◌, arith, append_assoc}
use Rattle.std.specs.Prelude.{codes, nat_eq, nat_le}
use Rattle.std.specs.List.{list_all, starts_with}
use Rattle.std.specs.Str.Parse.{IsNumeral}
use Rattle.std.proofs.lemmas.Bool.{or_cases, or_right, eqb-true}
use Rattle.std.proofs.lemmas.Bool.Decides.{nat_tests, Decides-eqb}
use Rattle.std.proofs.lemmas.Slice.Eq.{starts_is}
use Rattle.std.proofs.lemmas.List.{drop_at, take-append-drop, append-nil, drop-drop, length-take}
use Rattle.std.proofs.lemmas.List.Sums.{prefix_len-le-length}
use Rattle.rl_defs.specs.declared.lexeme.Mark.{Mark}
use Rattle.rl_defs.specs.declared.lexeme.Mark.TheVariants as m
use Rattle.rl_defs.specs.Words.{is_word_byte, is_word, is_reserved, starts_word}
use Rattle.rl_defs.specs.Tokens as t
use Rattle.rl_defs.specs.Tokens.{Token, Placed, IsToken, EndsBefore, IsComment, IsBare, BeginsWith, ArePlaced, IsLine, HasPlaced, HasTokens, tokens_of, is_blank, key_text, mark_text}
use Rattle.rl_text.specs.Scan.{blanks, is_end, token_at}
use Rattle.rl_text.specs.Steps.{body}
use Rattle.rl_text.proofs.Runs.{and_true, Stops, prefix_len-front, all_before}
use Rattle.rl_text.proofs.TokenLaws.{token_at-spelled, key_word, digit_byte}
use Rattle.rl_text.proofs.FoundLaws.{token_at-found, both, sized}

-- ---- what a token begins with

pub record Opens (bytes : List ℕ) : Type 0 where
  pub stops : Stops is_blank bytes
  pub goes_on : is_end bytes ≡ false

starter : (c : ℕ) (xs : List ℕ) → eqb 47 c ≡ false → is_blank c ≡ false → Opens (c ∷ xs)
starter c xs slash blank =
    let long : eqb (length (c ∷ xs)) 0 ≡ false = grind (arith, nat_tests) in
    let no : starts_with nat_eq (c ∷ xs) (codes "//") ≡ false = rw slash refl in
    record { stops = blank; goes_on = rw (long, no) refl }

byte_starts : (c : ℕ) (xs : List ℕ) → is_word_byte c ≡ true → Opens (c ∷ xs)
byte_starts c xs w =
    let slash : eqb 47 c ≡ false = grind (arith, nat_tests) in
    let blank : is_blank c ≡ false = grind (arith, nat_tests) in
    starter c xs slash blank

word_starts : (text rest : List ℕ) → is_word text ≡ true → Opens (text ++ rest)
word_starts [] rest word = absurd cc
word_starts (c ∷ cs) rest word =
    let p = and_true (starts_word (c ∷ cs) && nat_le (length (c ∷ cs)) 24) (list_all is_word_byte (c ∷ cs)) word in
    byte_starts c (cs ++ rest) (and_true (is_word_byte c) (list_all is_word_byte cs) p.1).0

mark_starts : (mark : Mark) (rest : List ℕ) → Opens (mark_text mark ++ rest)
mark_starts m.OpenBrace rest = starter 123 rest refl refl
mark_starts m.CloseBrace rest = starter 125 rest refl refl
mark_starts m.OpenParen rest = starter 40 rest refl refl
mark_starts m.CloseParen rest = starter 41 rest refl refl
mark_starts m.OpenBracket rest = starter 91 rest refl refl
mark_starts m.CloseBracket rest = starter 93 rest refl refl
mark_starts m.Less rest = starter 60 rest refl refl
mark_starts m.Greater rest = starter 62 rest refl refl
mark_starts m.Colon rest = starter 58 rest refl refl
mark_starts m.Semicolon rest = starter 59 rest refl refl
mark_starts m.Comma rest = starter 44 rest refl refl
mark_starts m.Equals rest = starter 61 rest refl refl
mark_starts m.Dot rest = starter 46 rest refl refl
mark_starts m.Ampersand rest = starter 38 rest refl refl
mark_starts m.Star rest = starter 42 rest refl refl
mark_starts m.At rest = starter 64 rest refl refl
mark_starts m.Hash rest = starter 35 rest refl refl
mark_starts m.Arrow rest = starter 45 (62 ∷ rest) refl refl

decimal_starts : (text rest : List ℕ) → IsNumeral 10 text → Opens (text ++ rest)
decimal_starts [] rest h = absurd (omega (arith, h.0))
decimal_starts (c ∷ cs) rest h = byte_starts c (cs ++ rest) (digit_byte c (omega (arith, h.1.0)))

-- a token's first byte is no blank, and begins no comment
token_starts : (token : Token) (text rest : List ℕ) → IsToken token text → Opens (text ++ rest)
token_starts (t.Name word) text rest h = word_starts text rest (and_true (is_word text) (not (is_reserved text)) (rw h.0 h.1)).0
token_starts (t.Reserved key) text rest h = word_starts text rest (ap is_word h ∙ key_word key)
token_starts (t.Number n) text rest (lt, inl (h, is)) = decimal_starts text rest h
token_starts (t.Number n) text rest (lt, inr (digits, parts, h, is)) = rw parts (starter 48 (120 ∷ (digits ++ rest)) refl refl)
token_starts (t.Text inner) text rest h = rw h.0 (starter 34 ((inner ++ 34 ∷ []) ++ rest) refl refl)
token_starts (t.Sign mark) text rest h = rw h (mark_starts mark rest)

-- ---- one token

abbrev pub placed : Token → ℕ → ℕ → Placed
placed token start stop = record { token = token; start = start; stop = stop }

blanks-gap : (gap text : List ℕ) → list_all is_blank gap ≡ true → Stops is_blank text → blanks (gap ++ text) ≡ length gap
blanks-gap gap text all stops = prefix_len-front is_blank gap text all stops

body-gap : (gap text : List ℕ) → list_all is_blank gap ≡ true → Stops is_blank text → body (gap ++ text) ≡ text
body-gap gap text all stops = rw (blanks-gap gap text all stops) (drop_at gap text (length gap) refl)

-- what reading finds where a token is placed
pub record Reads (p : Placed) (ps : List Placed) (place : ℕ) (bytes : List ℕ) : Type 0 where
  pub count : ℕ
  pub goes_on : is_end (body bytes) ≡ false
  pub read : token_at (body bytes) ≡ Some (p.token, count)
  pub start : p.start ≡ place + blanks bytes
  pub stop : p.stop ≡ place + blanks bytes + count
  pub behind : ArePlaced p.stop ps (drop count (body bytes))

reads : (p : Placed) (ps : List Placed) (place : ℕ) (bytes gap text rest : List ℕ) → BeginsWith p place bytes gap text rest → ArePlaced p.stop ps rest → Reads p ps place bytes
reads p ps place bytes gap text rest h more =
    let s = token_starts p.token text rest h.token in
    let b : body bytes ≡ text ++ rest = ap body h.parts ∙ body-gap gap (text ++ rest) h.blank s.stops in
    let n : blanks bytes ≡ length gap = ap blanks h.parts ∙ blanks-gap gap (text ++ rest) h.blank s.stops in
    record {
      count = length text;
      goes_on = rw b s.goes_on;
      read = rw b (token_at-spelled p.token text rest h.token h.ends);
      start = rw n h.start;
      stop = rw n h.stop;
      behind = rw (b, drop_at text rest (length text) refl) more;
    }

slashes : (more : List ℕ) → is_end (47 ∷ 47 ∷ more) ≡ true
slashes more = or_right (eqb (length (47 ∷ 47 ∷ more)) 0) (starts_with nat_eq (47 ∷ 47 ∷ more) (codes "//")) refl

bare_ends : (bytes gap last : List ℕ) → IsBare bytes gap last → is_end (body bytes) ≡ true
bare_ends bytes gap last h = go h.comment where
  go : IsComment last → is_end (body bytes) ≡ true
  go (inl none) = let b : body bytes ≡ [] = ap body (h.parts ∙ ap (λ (x : List ℕ). gap ++ x) none) ∙ body-gap gap [] h.blank tt in rw b refl
  go (inr (more, some)) = let b : body bytes ≡ codes "//" ++ more = ap body (h.parts ∙ ap (λ (x : List ℕ). gap ++ x) some) ∙ body-gap gap (codes "//" ++ more) h.blank refl in ap is_end b ∙ slashes more

no_comment : (place : ℕ) (bytes : List ℕ) → ArePlaced place [] bytes → is_end (body bytes) ≡ false → ⊥
no_comment place bytes (gap, last, h) e = let f = sym (bare_ends bytes gap last h) ∙ e in cc

-- ---- what was read so far, before any reading of the rest, is a reading of the line, and each begins so
pub record Agrees (line : List ℕ) (front : List Placed) (place : ℕ) : Type 0 where
  pub sound : (ps : List Placed) → ArePlaced place ps (drop place line) → ArePlaced 0 (front ++ ps) line
  pub complete : (ps : List Placed) → ArePlaced 0 ps line → (us : List Placed) × (ps ≡ front ++ us) × ArePlaced place us (drop place line)

pub Agrees-start : (line : List ℕ) → Agrees line [] 0
Agrees-start line = record { sound = λ ps h. h; complete = λ ps h. (ps, refl, h) }

no_token : (place : ℕ) (bytes : List ℕ) (us : List Placed) → is_end (body bytes) ≡ false → token_at (body bytes) ≡ None → ArePlaced place us bytes → ⊥
no_token place bytes [] more none h = no_comment place bytes h more
no_token place bytes (p ∷ us) more none h = let r = reads p us place bytes h.0 h.1 h.2 h.3 h.4 in let f = sym none ∙ r.read in cc

pub stuck : (line : List ℕ) (front : List Placed) (place : ℕ) → Agrees line front place → is_end (body (drop place line)) ≡ false → token_at (body (drop place line)) ≡ None → (ps : List Placed) → ArePlaced 0 ps line → ⊥
stuck line front place a more none ps h = let c = a.complete ps h in no_token place (drop place line) c.0 more none c.2

nil_is : (xs : List ℕ) → length xs ≡ 0 → xs ≡ []
nil_is [] e = refl
nil_is (x ∷ xs) e = absurd (omega (arith, e))

ends : (bytes : List ℕ) → is_end bytes ≡ true → IsComment bytes
ends bytes e = elim (or_cases (eqb (length bytes) 0) (starts_with nat_eq bytes (codes "//")) e) [
  | inl empty ↦ inl (nil_is bytes (eqb-true (length bytes) 0 empty))
  | inr slashes ↦ inr (drop 2 bytes, (starts_is Decides-eqb bytes (codes "//") true (sym slashes)).0 refl)
]

pub done : (line : List ℕ) (front : List Placed) (place : ℕ) → Agrees line front place → is_end (body (drop place line)) ≡ true → ArePlaced 0 front line
done line front place a e =
    let bytes : List ℕ = drop place line in
    subst (λ (ps : List Placed). ArePlaced 0 ps line) (append-nil front) (a.sound [] (take (blanks bytes) bytes, body bytes, record { parts = sym (take-append-drop (blanks bytes) bytes); blank = all_before is_blank bytes; comment = ends (body bytes) e }))

-- what is read at a place is one token, and the rest
same_reading : (place : ℕ) (bytes : List ℕ) (token : Token) (n : ℕ) (p : Placed) (us : List Placed) → token_at (body bytes) ≡ Some (sized n token) → Reads p us place bytes → (p ≡ placed token (place + blanks bytes) (place + blanks bytes + n)) × ArePlaced p.stop us (drop n (body bytes))
same_reading place bytes token n p us e r =
    let q = both token p.token n r.count (sym e ∙ r.read) in (
      ap (λ (x : Token). placed x p.start p.stop) (sym q.0) ∙ ap (λ (x : ℕ). placed token x p.stop) r.start ∙ ap (λ (x : ℕ). placed token (place + blanks bytes) x) (r.stop ∙ ap (λ (x : ℕ). place + blanks bytes + x) (sym q.1)),
      subst (λ (x : ℕ). ArePlaced p.stop us (drop x (body bytes))) (sym q.1) r.behind,
    )

first_of_line : (place : ℕ) (bytes : List ℕ) (token : Token) (n : ℕ) (us : List Placed) → is_end (body bytes) ≡ false → token_at (body bytes) ≡ Some (sized n token) → ArePlaced place us bytes → (vs : List Placed) × (us ≡ placed token (place + blanks bytes) (place + blanks bytes + n) ∷ vs) × ArePlaced (place + blanks bytes + n) vs (drop n (body bytes))
first_of_line place bytes token n [] more e h = absurd (no_comment place bytes h more)
first_of_line place bytes token n (p ∷ us) more e h =
    let s = same_reading place bytes token n p us e (reads p us place bytes h.0 h.1 h.2 h.3 h.4) in
    (us, ap (λ (x : Placed). x ∷ us) s.0, subst (λ (x : ℕ). ArePlaced x us (drop n (body bytes))) (ap (λ (x : Placed). x.stop) s.0) s.1)

-- one token more
pub step : (line : List ℕ) (front : List Placed) (place : ℕ) (token : Token) (n : ℕ) → Agrees line front place → is_end (body (drop place line)) ≡ false → token_at (body (drop place line)) ≡ Some (sized n token) → Agrees line (front ++ placed token (place + blanks (drop place line)) (place + blanks (drop place line) + n) ∷ []) (place + blanks (drop place line) + n)
step line front place token n a more e =
    let bytes : List ℕ = drop place line in
    let p : Placed = placed token (place + blanks bytes) (place + blanks bytes + n) in
    let f = token_at-found (body bytes) token n e in
    let rest : drop n (body bytes) ≡ drop p.stop line = drop-drop n (blanks bytes) bytes ∙ drop-drop (blanks bytes + n) place line ∙ ap (λ (x : ℕ). drop x line) (omega arith) in
    let gap : length (take (blanks bytes) bytes) ≡ blanks bytes = omega (arith, length-take (blanks bytes) bytes, prefix_len-le-length is_blank bytes) in
    let text : length (take n (body bytes)) ≡ n = omega (arith, length-take n (body bytes), f.within) in
    let begins : BeginsWith p place bytes (take (blanks bytes) bytes) (take n (body bytes)) (drop n (body bytes)) = record {
      parts = sym (ap (λ (x : List ℕ). take (blanks bytes) bytes ++ x) (take-append-drop n (body bytes)) ∙ take-append-drop (blanks bytes) bytes);
      blank = all_before is_blank bytes;
      token = f.here;
      ends = f.ends;
      start = omega (arith, gap);
      stop = omega (arith, gap, text);
    } in
    record {
      sound = λ ps h. subst (λ (us : List Placed). ArePlaced 0 us line) (sym (append_assoc front (p ∷ []) ps)) (a.sound (p ∷ ps) (take (blanks bytes) bytes, take n (body bytes), drop n (body bytes), begins, subst (λ (x : List ℕ). ArePlaced p.stop ps x) (sym rest) h));
      complete = λ ps h. let c = a.complete ps h in let g = first_of_line place bytes token n c.0 more e c.2 in (g.0, c.1 ∙ ap (λ (us : List Placed). front ++ us) g.1 ∙ sym (append_assoc front (p ∷ []) g.0), subst (λ (x : List ℕ). ArePlaced p.stop g.0 x) rest g.2);
    }

-- ---- a line has one list of tokens

pub one_line : (place : ℕ) (ps us : List Placed) (bytes : List ℕ) → ArePlaced place ps bytes → ArePlaced place us bytes → ps ≡ us
one_line place [] [] bytes h g = refl
one_line place [] (u ∷ us) bytes h g = let r = reads u us place bytes g.0 g.1 g.2 g.3 g.4 in absurd (no_comment place bytes h r.goes_on)
one_line place (p ∷ ps) [] bytes h g = let r = reads p ps place bytes h.0 h.1 h.2 h.3 h.4 in absurd (no_comment place bytes g r.goes_on)
one_line place (p ∷ ps) (u ∷ us) bytes h g =
    let r = reads p ps place bytes h.0 h.1 h.2 h.3 h.4 in
    let s = same_reading place bytes p.token r.count u us r.read (reads u us place bytes g.0 g.1 g.2 g.3 g.4) in
    let x = same_reading place bytes p.token r.count p ps r.read r in
    let same : u ≡ p = s.0 ∙ sym x.0 in
    let more = one_line p.stop ps us (drop r.count (body bytes)) x.1 (subst (λ (y : Placed). ArePlaced y.stop us (drop r.count (body bytes))) same s.1) in
    ap (λ (y : Placed). y ∷ ps) (sym same) ∙ ap (λ (y : List Placed). u ∷ y) more

pub one_placing : (ps us : List Placed) (line : List ℕ) → HasPlaced ps line → HasPlaced us line → ps ≡ us
one_placing ps us line h g = one_line 0 ps us line h.tokens g.tokens

pub one_reading : (ts us : List Token) (line : List ℕ) → HasTokens ts line → HasTokens us line → ts ≡ us
one_reading ts us line h g = sym h.1 ∙ ap tokens_of (one_placing h.0 g.0 line h.2 g.2) ∙ g.1
