-- What is found at the front is a token.
use Rattle.std.proofs.Common.{◌≡◌, ℕ, ◌+◌, ◌<◌, ◌≤◌, Bool, true, false, cond, eqb, List, [], ◌∷◌, ◌++◌, length, take, drop, Option, None, Some, inl, inr, refl, sym, ap, subst, ◌∙◌, arith, append_assoc, length-append}
use Rattle.std.specs.Prelude.{codes, nat_eq, option_map}
use Rattle.std.specs.List.{list_all, prefix_len, starts_with}
use Rattle.std.specs.Char.{is_ascii_digit}
use Rattle.std.proofs.lemmas.Bool.Decides.{Decides-eqb}
use Rattle.std.proofs.lemmas.Slice.Eq.{starts_is}
use Rattle.std.proofs.lemmas.List.{take_at, length-take, length-drop, take-append-drop}
use Rattle.std.proofs.lemmas.List.Sums.{prefix_len-le-length}
use Rattle.std.proofs.lemmas.Bool.{eqb-true}
use Rattle.rl_defs.specs.declared.lexeme.Key.{Key}
use Rattle.rl_defs.specs.declared.lexeme.Mark.{Mark}
use Rattle.rl_defs.specs.declared.lexeme.Mark.TheVariants as m
use Rattle.rl_defs.specs.Words.{is_word_byte, is_name}
use Rattle.rl_defs.specs.Tokens as t
use Rattle.rl_defs.specs.Tokens.{Token, IsToken, EndsBefore, NoWordByteFirst, IsNumber, key_text, mark_text, is_text_byte}
use Rattle.rl_text.specs.Scan.{Found, number_of, number_at, key_of, word_of, run_of, run_at, sign_of, quoted, text_at, mark_at, token_at}
use Rattle.rl_text.proofs.Runs.{Stops, stops_behind, all_before}
use Rattle.rl_text.proofs.NumberLaws.{number_found}
use Rattle.rl_text.proofs.TokenLaws.{key_is}

-- a token was found in so many bytes, and it ends there
pub record IsFound (token : Token) (n : ℕ) (bytes : List ℕ) : Type 0 where
  pub here : IsToken token (take n bytes)
  pub ends : EndsBefore token (drop n bytes)
  pub some : 0 < n
  pub within : n ≤ length bytes

abbrev pub sized : ℕ → Token → Found
sized n token = (token, n)

pub both : (a b : Token) (i j : ℕ) → Some (sized i a) ≡ Some (sized j b) → (a ≡ b) × (i ≡ j)
both a b i j e = let q : sized i a ≡ sized j b = cc in (ap (λ (p : Found). p.0) q, ap (λ (p : Found). p.1) q)

mapped : (m n : ℕ) (r : Option Token) (token : Token) → option_map (sized m) r ≡ Some (sized n token) → (r ≡ Some token) × (m ≡ n)
mapped m n None token e = absurd cc
mapped m n (Some a) token e = let p = both a token m n e in (ap (λ (x : Token). Some x) p.0, p.1)

-- ---- runs

hex_parts : (run : List ℕ) → starts_with nat_eq run (codes "0x") ≡ true → run ≡ codes "0x" ++ drop 2 run
hex_parts run e = (starts_is Decides-eqb run (codes "0x") true (sym e)).0 refl

number_case : (run : List ℕ) (n : ℕ) (b : Bool) → starts_with nat_eq run (codes "0x") ≡ b → cond b (number_of 16 (drop 2 run)) (number_of 10 run) ≡ Some n → IsNumber run n
number_case run n true hex e = let f = number_found 16 (drop 2 run) n e in (f.fits, inr (drop 2 run, hex_parts run hex, f.numeral, f.value))
number_case run n false hex e = let f = number_found 10 run n e in (f.fits, inl (f.numeral, f.value))

number_is : (run : List ℕ) (n : ℕ) → number_at run ≡ Some n → IsNumber run n
unfolding number_at
number_is run n e = number_case run n _ refl e

number_token : (run : List ℕ) (r : Option ℕ) (token : Token) → number_at run ≡ r → option_map (λ n. t.Number n) r ≡ Some token → IsToken token run
number_token run None token is e = absurd cc
number_token run (Some n) token is e = let same : t.Number n ≡ token = cc in subst (λ (x : Token). IsToken x run) same (number_is run n is)

name_token : (run : List ℕ) (b : Bool) (token : Token) → is_name run ≡ b → cond b (Some (t.Name run)) None ≡ Some token → IsToken token run
name_token run true token name e = let same : t.Name run ≡ token = cc in subst (λ (x : Token). IsToken x run) same (refl, name)
name_token run false token name e = absurd cc

word_case : (run : List ℕ) (r : Option Key) (token : Token) → key_of run ≡ r → word_of run ≡ Some token → IsToken token run
unfolding word_of
word_case run None token is e = name_token run (is_name run) token refl (sym (rw is refl) ∙ e)
word_case run (Some key) token is e =
    let f : word_of run ≡ Some (t.Reserved key) = rw is refl in
    let same : t.Reserved key ≡ token = (let g = sym f ∙ e in cc) in
    subst (λ (x : Token). IsToken x run) same (sym (key_is run key is))

run_case : (c : ℕ) (cs : List ℕ) (b : Bool) (token : Token) → is_ascii_digit c ≡ b → cond b (option_map (λ n. t.Number n) (number_at (c ∷ cs))) (word_of (c ∷ cs)) ≡ Some token → IsToken token (c ∷ cs)
run_case c cs true token is e = number_token (c ∷ cs) (number_at (c ∷ cs)) token refl e
run_case c cs false token is e = word_case (c ∷ cs) (key_of (c ∷ cs)) token refl e

run_token : (run : List ℕ) (token : Token) → run_of run ≡ Some token → IsToken token run
run_token [] token e = absurd cc
run_token (c ∷ cs) token e = run_case c cs (is_ascii_digit c) token refl e

first_free : (rest : List ℕ) → Stops is_word_byte rest → NoWordByteFirst rest
first_free [] h = tt
first_free (c ∷ cs) h = rw h refl

run_ends : (token : Token) (rest : List ℕ) → NoWordByteFirst rest → EndsBefore token rest
run_ends (t.Name word) rest h = h
run_ends (t.Reserved key) rest h = h
run_ends (t.Number n) rest h = h
run_ends (t.Text inner) rest h = tt
run_ends (t.Sign mark) rest h = tt

run_found : (c : ℕ) (cs : List ℕ) (token : Token) (n : ℕ) → is_word_byte c ≡ true → run_at (c ∷ cs) ≡ Some (sized n token) → IsFound token n (c ∷ cs)
run_found c cs token n w e =
    let p = mapped (prefix_len is_word_byte (c ∷ cs)) n (run_of (take (prefix_len is_word_byte (c ∷ cs)) (c ∷ cs))) token e in
    record {
      here = run_token (take n (c ∷ cs)) token (rw (← p.1) p.0);
      ends = run_ends token (drop n (c ∷ cs)) (rw (← p.1) (first_free _ (stops_behind is_word_byte (c ∷ cs))));
      some = rw (← p.1) (rw w (omega arith));
      within = rw (← p.1) (prefix_len-le-length is_word_byte (c ∷ cs));
    }

-- ---- texts

quote_case : (rest : List ℕ) (n : ℕ) (b : Bool) → starts_with nat_eq (drop (prefix_len is_text_byte rest) rest) (codes "\"") ≡ b → cond b (Some (prefix_len is_text_byte rest)) None ≡ Some n → (prefix_len is_text_byte rest ≡ n) × (drop n rest ≡ 34 ∷ drop 1 (drop n rest))
quote_case rest n true is e =
    let same : prefix_len is_text_byte rest ≡ n = cc in
    (same, rw (← same) ((starts_is Decides-eqb (drop (prefix_len is_text_byte rest) rest) (codes "\"") true (sym is)).0 refl))
quote_case rest n false is e = absurd cc

text_here : (rest more : List ℕ) (m n : ℕ) → m + 2 ≡ n → m ≤ length rest → drop m rest ≡ 34 ∷ more → take n (34 ∷ rest) ≡ 34 ∷ take m rest ++ 34 ∷ []
text_here rest more m n e le parts =
    let whole : rest ≡ (take m rest ++ 34 ∷ []) ++ more = sym (take-append-drop m rest) ∙ ap (λ (x : List ℕ). take m rest ++ x) parts ∙ sym (append_assoc (take m rest) (34 ∷ []) more) in
    let count : length (34 ∷ take m rest ++ 34 ∷ []) ≡ n = omega (arith, e, length-append (take m rest) (34 ∷ []), length-take m rest) in
    ap (λ (x : List ℕ). take n (34 ∷ x)) whole ∙ take_at (34 ∷ take m rest ++ 34 ∷ []) more n count

text_long : (rest more : List ℕ) (m : ℕ) → drop m rest ≡ 34 ∷ more → m < length rest
text_long rest more m e = omega (arith, length-drop m rest, ap length e)

text_case : (rest : List ℕ) (r : Option ℕ) (token : Token) (n : ℕ) → quoted rest ≡ r → option_map (λ (m : ℕ). sized (m + 2) (t.Text (take m rest))) r ≡ Some (sized n token) → IsFound token n (34 ∷ rest)
text_case rest None token n is e = absurd cc
text_case rest (Some m) token n is e =
    let p = both (t.Text (take m rest)) token (m + 2) n e in
    let q = quote_case rest m _ refl is in
    let lt : m < length rest = text_long rest (drop 1 (drop m rest)) m q.1 in
    let all : list_all is_text_byte (take m rest) ≡ true = rw (← q.0) (all_before is_text_byte rest) in
    let here : IsToken (t.Text (take m rest)) (take n (34 ∷ rest)) = (text_here rest (drop 1 (drop m rest)) m n p.1 (omega arith) q.1, all) in
    record {
      here = subst (λ (x : Token). IsToken x (take n (34 ∷ rest))) p.0 here;
      ends = subst (λ (x : Token). EndsBefore x (drop n (34 ∷ rest))) p.0 tt;
      some = omega (arith, p.1);
      within = omega (arith, p.1);
    }

-- ---- marks

sign_step : (c x : ℕ) (mark found : Mark) (rest : Option Mark) → mark_text mark ≡ x ∷ [] → (rest ≡ Some found → mark_text found ≡ c ∷ []) → (b : Bool) → eqb c x ≡ b → cond b (Some mark) rest ≡ Some found → mark_text found ≡ c ∷ []
sign_step c x mark found rest is later true e f = let same : mark ≡ found = cc in rw (← same, eqb-true c x e) is
sign_step c x mark found rest is later false e f = later f

sign_is : (c : ℕ) (found : Mark) → sign_of c ≡ Some found → mark_text found ≡ c ∷ []
sign_is c found =
    sign_step c 123 m.OpenBrace found _ refl (sign_step c 125 m.CloseBrace found _ refl (sign_step c 40 m.OpenParen found _ refl
    (sign_step c 41 m.CloseParen found _ refl (sign_step c 91 m.OpenBracket found _ refl (sign_step c 93 m.CloseBracket found _ refl
    (sign_step c 60 m.Less found _ refl (sign_step c 62 m.Greater found _ refl (sign_step c 58 m.Colon found _ refl
    (sign_step c 59 m.Semicolon found _ refl (sign_step c 44 m.Comma found _ refl (sign_step c 61 m.Equals found _ refl
    (sign_step c 46 m.Dot found _ refl (sign_step c 38 m.Ampersand found _ refl (sign_step c 42 m.Star found _ refl
    (sign_step c 64 m.At found _ refl (sign_step c 35 m.Hash found None refl (λ e. absurd cc)
    _ refl) _ refl) _ refl) _ refl) _ refl) _ refl) _ refl) _ refl) _ refl) _ refl) _ refl) _ refl) _ refl) _ refl) _ refl) _ refl) _ refl

marked : (r : Option Mark) (token : Token) (n : ℕ) → option_map (λ (mark : Mark). sized 1 (t.Sign mark)) r ≡ Some (sized n token) → (mark : Mark) × (r ≡ Some mark) × (t.Sign mark ≡ token) × (1 ≡ n)
marked None token n e = absurd cc
marked (Some mark) token n e = let p = both (t.Sign mark) token 1 n e in (mark, refl, p.0, p.1)

sign_found : (token : Token) (n : ℕ) (bytes : List ℕ) (mark : Mark) → t.Sign mark ≡ token → 0 < n → n ≤ length bytes → take n bytes ≡ mark_text mark → IsFound token n bytes
sign_found token n bytes mark is some le here = record {
  here = subst (λ (x : Token). IsToken x (take n bytes)) is here;
  ends = subst (λ (x : Token). EndsBefore x (drop n bytes)) is tt;
  some = some;
  within = le;
}

mark_case : (c : ℕ) (cs : List ℕ) (token : Token) (n : ℕ) (b : Bool) → starts_with nat_eq (c ∷ cs) (codes "->") ≡ b → cond b (Some (sized 2 (t.Sign m.Arrow))) (option_map (λ (mark : Mark). sized 1 (t.Sign mark)) (sign_of c)) ≡ Some (sized n token) → IsFound token n (c ∷ cs)
mark_case c cs token n true is e =
    let p = both (t.Sign m.Arrow) token 2 n e in
    let parts : c ∷ cs ≡ codes "->" ++ drop 2 (c ∷ cs) = (starts_is Decides-eqb (c ∷ cs) (codes "->") true (sym is)).0 refl in
    let here : take n (c ∷ cs) ≡ codes "->" = ap (take n) parts ∙ take_at (codes "->") (drop 2 (c ∷ cs)) n (omega (arith, p.1)) in
    sign_found token n (c ∷ cs) m.Arrow p.0 (omega (arith, p.1)) (omega (arith, p.1, ap length parts)) here
mark_case c cs token n false is e =
    let p = marked (sign_of c) token n e in
    let here : take n (c ∷ cs) ≡ mark_text p.0 = ap (λ (x : ℕ). take x (c ∷ cs)) (sym p.3) ∙ sym (sign_is c p.0 p.1) in
    sign_found token n (c ∷ cs) p.0 p.2 (omega (arith, p.3)) (omega (arith, p.3)) here

-- ---- all of them

other_case : (c : ℕ) (cs : List ℕ) (token : Token) (n : ℕ) (b : Bool) → eqb c 34 ≡ b → cond b (text_at cs) (mark_at (c ∷ cs) c) ≡ Some (sized n token) → IsFound token n (c ∷ cs)
other_case c cs token n true is e = rw (eqb-true c 34 is) (text_case cs (quoted cs) token n refl e)
other_case c cs token n false is e = mark_case c cs token n _ refl e

token_case : (c : ℕ) (cs : List ℕ) (token : Token) (n : ℕ) (b : Bool) → is_word_byte c ≡ b → cond b (run_at (c ∷ cs)) (cond (eqb c 34) (text_at cs) (mark_at (c ∷ cs) c)) ≡ Some (sized n token) → IsFound token n (c ∷ cs)
token_case c cs token n true is e = run_found c cs token n is e
token_case c cs token n false is e = other_case c cs token n (eqb c 34) refl e

pub token_at-found : (bytes : List ℕ) (token : Token) (n : ℕ) → token_at bytes ≡ Some (sized n token) → IsFound token n bytes
token_at-found [] token n e = absurd cc
token_at-found (c ∷ cs) token n e = token_case c cs token n _ refl e
