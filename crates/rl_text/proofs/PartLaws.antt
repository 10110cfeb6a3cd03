-- Parts that are read are spelled so, and parts that are spelled so are read.
use Rattle.std.proofs.Common.{◌≡◌, ℕ, ◌⊎◌, inl, inr, Bool, true, false, cond, eqb, List, [], ◌∷◌, ◌++◌, Option, None, Some, refl, sym, ap, ◌∙◌}
use Rattle.std.specs.Cmp.Lexicographic.{pointwise}
use Rattle.std.specs.Prelude.{nat_eq}
use Rattle.std.proofs.lemmas.Bool.{eqb-true}
use Rattle.std.proofs.lemmas.Slice.Eq.{slice_eq-Decides}
use Rattle.std.proofs.lemmas.Bool.Decides.{Decides-eqb}
use Rattle.rl_defs.specs.declared.lexeme.Key.{Key}
use Rattle.rl_defs.specs.declared.lexeme.Key.TheVariants as k
use Rattle.rl_defs.specs.declared.lexeme.Mark.{Mark}
use Rattle.rl_defs.specs.declared.lexeme.Mark.TheVariants as m
use Rattle.rl_defs.specs.Tokens.{Token, Name, Reserved, Number, Text, Sign}
use Rattle.rl_text.specs.Reading.{Reader, ◌>>=◌, either, key_place, mark_place, same_key, same_mark, name_at, number_at, mark_at, key_at, word_at, end_at}

abbrev pub Part : Type 0 → Type 0
Part A = A × List Token

abbrev pub part : {A : Type 0} → A → List Token → Part A
part a rest = (a, rest)

pub both_parts : {A : Type 0} (x y : Part A) → Some x ≡ Some y → (x.0 ≡ y.0) × (x.1 ≡ y.1)
both_parts {A} x y e = let q : x ≡ y = cc in (ap (λ (p : Part A). p.0) q, ap (λ (p : Part A). p.1) q)

-- ---- steps of a reading: what was read first, and what the rest of the reading gave

pub bind_some : {A B : Type 0} (r : Option A) (f : A → Option B) (y : B) → (r >>= f) ≡ Some y → (x : A) × (r ≡ Some x) × (f x ≡ Some y)
bind_some None f y e = absurd cc
bind_some (Some x) f y e = (x, refl, e)

-- the first reading was there, or the other one was taken
pub record Took {A B : Type 0} (r : Option A) (f : A → Option B) (y : B) : Type 0 where
  pub x : A
  pub is : r ≡ Some x
  pub gives : f x ≡ Some y

pub either_some : {A B : Type 0} (r : Option A) (f : A → Option B) (other : Option B) (y : B) → either r f other ≡ Some y → (Took r f y) ⊎ ((r ≡ None) × (other ≡ Some y))
either_some None f other y e = inr (refl, e)
either_some (Some x) f other y e = inl (record { x = x; is = refl; gives = e })

-- ---- single tokens

pub name_takes : (ts : List Token) (word : List ℕ) (rest : List Token) → name_at ts ≡ Some (part word rest) → ts ≡ Name word ∷ rest
unfolding name_at
name_takes [] word rest e = absurd cc
name_takes (Name w ∷ ts) word rest e = let q = both_parts (part w ts) (part word rest) e in rw (q.0, q.1) refl
name_takes (Reserved key ∷ ts) word rest e = absurd cc
name_takes (Number n ∷ ts) word rest e = absurd cc
name_takes (Text inner ∷ ts) word rest e = absurd cc
name_takes (Sign mark ∷ ts) word rest e = absurd cc

pub name_again : (word : List ℕ) (rest : List Token) → name_at (Name word ∷ rest) ≡ Some (part word rest)
unfolding name_at
name_again word rest = refl

pub number_takes : (ts : List Token) (n : ℕ) (rest : List Token) → number_at ts ≡ Some (part n rest) → ts ≡ Number n ∷ rest
unfolding number_at
number_takes [] n rest e = absurd cc
number_takes (Name w ∷ ts) n rest e = absurd cc
number_takes (Reserved key ∷ ts) n rest e = absurd cc
number_takes (Number i ∷ ts) n rest e = let q = both_parts (part i ts) (part n rest) e in rw (q.0, q.1) refl
number_takes (Text inner ∷ ts) n rest e = absurd cc
number_takes (Sign mark ∷ ts) n rest e = absurd cc

pub number_again : (n : ℕ) (rest : List Token) → number_at (Number n ∷ rest) ≡ Some (part n rest)
unfolding number_at
number_again n rest = refl

abbrev key_back : ℕ → Key
key_back n =
    cond (eqb n 0) k.Pub (cond (eqb n 1) k.Struct (cond (eqb n 2) k.Trait (cond (eqb n 3) k.Fn (cond (eqb n 4) k.SelfWord (cond (eqb n 5) k.RRef (
    cond (eqb n 6) k.RpcResult (cond (eqb n 7) k.Dyn (cond (eqb n 8) k.Mut (cond (eqb n 9) k.Const (cond (eqb n 10) k.Box (cond (eqb n 11) k.Vec (
    cond (eqb n 12) k.String (cond (eqb n 13) k.Bool (cond (eqb n 14) k.U8 (cond (eqb n 15) k.U16 (cond (eqb n 16) k.U32 (cond (eqb n 17) k.U64 (
    k.Num))))))))))))))))))

key_back_again : (x : Key) → key_back (key_place x) ≡ x
key_back_again k.Pub = refl
key_back_again k.Struct = refl
key_back_again k.Trait = refl
key_back_again k.Fn = refl
key_back_again k.SelfWord = refl
key_back_again k.RRef = refl
key_back_again k.RpcResult = refl
key_back_again k.Dyn = refl
key_back_again k.Mut = refl
key_back_again k.Const = refl
key_back_again k.Box = refl
key_back_again k.Vec = refl
key_back_again k.String = refl
key_back_again k.Bool = refl
key_back_again k.U8 = refl
key_back_again k.U16 = refl
key_back_again k.U32 = refl
key_back_again k.U64 = refl
key_back_again k.Num = refl

same_key_is : (a b : Key) → same_key a b ≡ true → a ≡ b
same_key_is a b e = sym (key_back_again a) ∙ ap key_back (eqb-true (key_place a) (key_place b) e) ∙ key_back_again b

same_key_self : (x : Key) → same_key x x ≡ true
same_key_self k.Pub = refl
same_key_self k.Struct = refl
same_key_self k.Trait = refl
same_key_self k.Fn = refl
same_key_self k.SelfWord = refl
same_key_self k.RRef = refl
same_key_self k.RpcResult = refl
same_key_self k.Dyn = refl
same_key_self k.Mut = refl
same_key_self k.Const = refl
same_key_self k.Box = refl
same_key_self k.Vec = refl
same_key_self k.String = refl
same_key_self k.Bool = refl
same_key_self k.U8 = refl
same_key_self k.U16 = refl
same_key_self k.U32 = refl
same_key_self k.U64 = refl
same_key_self k.Num = refl

abbrev mark_back : ℕ → Mark
mark_back n =
    cond (eqb n 0) m.OpenBrace (cond (eqb n 1) m.CloseBrace (cond (eqb n 2) m.OpenParen (cond (eqb n 3) m.CloseParen (cond (eqb n 4) m.OpenBracket (cond (eqb n 5) m.CloseBracket (
    cond (eqb n 6) m.Less (cond (eqb n 7) m.Greater (cond (eqb n 8) m.Colon (cond (eqb n 9) m.Semicolon (cond (eqb n 10) m.Comma (cond (eqb n 11) m.Equals (
    cond (eqb n 12) m.Dot (cond (eqb n 13) m.Ampersand (cond (eqb n 14) m.Star (cond (eqb n 15) m.At (cond (eqb n 16) m.Hash (m.Arrow)))))))))))))))))

mark_back_again : (x : Mark) → mark_back (mark_place x) ≡ x
mark_back_again m.OpenBrace = refl
mark_back_again m.CloseBrace = refl
mark_back_again m.OpenParen = refl
mark_back_again m.CloseParen = refl
mark_back_again m.OpenBracket = refl
mark_back_again m.CloseBracket = refl
mark_back_again m.Less = refl
mark_back_again m.Greater = refl
mark_back_again m.Colon = refl
mark_back_again m.Semicolon = refl
mark_back_again m.Comma = refl
mark_back_again m.Equals = refl
mark_back_again m.Dot = refl
mark_back_again m.Ampersand = refl
mark_back_again m.Star = refl
mark_back_again m.At = refl
mark_back_again m.Hash = refl
mark_back_again m.Arrow = refl

same_mark_is : (a b : Mark) → same_mark a b ≡ true → a ≡ b
same_mark_is a b e = sym (mark_back_again a) ∙ ap mark_back (eqb-true (mark_place a) (mark_place b) e) ∙ mark_back_again b

same_mark_self : (x : Mark) → same_mark x x ≡ true
same_mark_self m.OpenBrace = refl
same_mark_self m.CloseBrace = refl
same_mark_self m.OpenParen = refl
same_mark_self m.CloseParen = refl
same_mark_self m.OpenBracket = refl
same_mark_self m.CloseBracket = refl
same_mark_self m.Less = refl
same_mark_self m.Greater = refl
same_mark_self m.Colon = refl
same_mark_self m.Semicolon = refl
same_mark_self m.Comma = refl
same_mark_self m.Equals = refl
same_mark_self m.Dot = refl
same_mark_self m.Ampersand = refl
same_mark_self m.Star = refl
same_mark_self m.At = refl
same_mark_self m.Hash = refl
same_mark_self m.Arrow = refl

mark_case : (other mark : Mark) (ts rest : List Token) (b : Bool) → same_mark other mark ≡ b → cond b (Some ts) None ≡ Some rest → Sign other ∷ ts ≡ Sign mark ∷ rest
mark_case other mark ts rest true is e = let same : ts ≡ rest = cc in rw (same_mark_is other mark is, same) refl
mark_case other mark ts rest false is e = absurd cc

pub mark_takes : (mark : Mark) (ts rest : List Token) → mark_at mark ts ≡ Some rest → ts ≡ Sign mark ∷ rest
unfolding mark_at
mark_takes mark [] rest e = absurd cc
mark_takes mark (Name w ∷ ts) rest e = absurd cc
mark_takes mark (Reserved key ∷ ts) rest e = absurd cc
mark_takes mark (Number i ∷ ts) rest e = absurd cc
mark_takes mark (Text inner ∷ ts) rest e = absurd cc
mark_takes mark (Sign other ∷ ts) rest e = mark_case other mark ts rest _ refl e

pub mark_again : (mark : Mark) (rest : List Token) → mark_at mark (Sign mark ∷ rest) ≡ Some rest
unfolding mark_at
mark_again mark rest = rw (same_mark_self mark) refl

key_case : (other key : Key) (ts rest : List Token) (b : Bool) → same_key other key ≡ b → cond b (Some ts) None ≡ Some rest → Reserved other ∷ ts ≡ Reserved key ∷ rest
key_case other key ts rest true is e = let same : ts ≡ rest = cc in rw (same_key_is other key is, same) refl
key_case other key ts rest false is e = absurd cc

pub key_takes : (key : Key) (ts rest : List Token) → key_at key ts ≡ Some rest → ts ≡ Reserved key ∷ rest
unfolding key_at
key_takes key [] rest e = absurd cc
key_takes key (Name w ∷ ts) rest e = absurd cc
key_takes key (Reserved other ∷ ts) rest e = key_case other key ts rest _ refl e
key_takes key (Number i ∷ ts) rest e = absurd cc
key_takes key (Text inner ∷ ts) rest e = absurd cc
key_takes key (Sign mark ∷ ts) rest e = absurd cc

pub key_again : (key : Key) (rest : List Token) → key_at key (Reserved key ∷ rest) ≡ Some rest
unfolding key_at
key_again key rest = rw (same_key_self key) refl

word_case : (other word : List ℕ) (ts rest : List Token) (b : Bool) → pointwise nat_eq other word ≡ b → cond b (Some ts) None ≡ Some rest → Name other ∷ ts ≡ Name word ∷ rest
word_case other word ts rest true is e =
    let same : ts ≡ rest = cc in
    let equal : other ≡ word = (slice_eq-Decides Decides-eqb other word true (sym is)).0 refl in
    ap (λ (w : List ℕ). Name w ∷ ts) equal ∙ ap (λ (t : List Token). Name word ∷ t) same
word_case other word ts rest false is e = absurd cc

pub word_takes : (word : List ℕ) (ts rest : List Token) → word_at word ts ≡ Some rest → ts ≡ Name word ∷ rest
unfolding word_at
word_takes word [] rest e = absurd cc
word_takes word (Name other ∷ ts) rest e = word_case other word ts rest _ refl e
word_takes word (Reserved key ∷ ts) rest e = absurd cc
word_takes word (Number i ∷ ts) rest e = absurd cc
word_takes word (Text inner ∷ ts) rest e = absurd cc
word_takes word (Sign mark ∷ ts) rest e = absurd cc

pub word_again : (word : List ℕ) (rest : List Token) → word_at word (Name word ∷ rest) ≡ Some rest
unfolding word_at
word_again word rest = let same : pointwise nat_eq word word ≡ true = (slice_eq-Decides Decides-eqb word word (pointwise nat_eq word word) refl).1 refl in rw same refl

pub end_takes : (ts rest : List Token) → end_at ts ≡ Some rest → ts ≡ []
unfolding end_at
end_takes [] rest e = refl
end_takes (t ∷ ts) rest e = absurd cc

pub end_again : end_at [] ≡ Some []
unfolding end_at
end_again = refl

-- ---- steps: the first part of a reading, and what the rest of it gave

pub mark_step : {B : Type 0} (mark : Mark) (ts : List Token) (f : List Token → Option B) (y : B) → (mark_at mark ts >>= f) ≡ Some y → (rest : List Token) × (ts ≡ Sign mark ∷ rest) × (f rest ≡ Some y)
mark_step mark ts f y e = let p = bind_some (mark_at mark ts) f y e in (p.0, mark_takes mark ts p.0 p.1, p.2)

pub key_step : {B : Type 0} (key : Key) (ts : List Token) (f : List Token → Option B) (y : B) → (key_at key ts >>= f) ≡ Some y → (rest : List Token) × (ts ≡ Reserved key ∷ rest) × (f rest ≡ Some y)
key_step key ts f y e = let p = bind_some (key_at key ts) f y e in (p.0, key_takes key ts p.0 p.1, p.2)

pub word_step : {B : Type 0} (word : List ℕ) (ts : List Token) (f : List Token → Option B) (y : B) → (word_at word ts >>= f) ≡ Some y → (rest : List Token) × (ts ≡ Name word ∷ rest) × (f rest ≡ Some y)
word_step word ts f y e = let p = bind_some (word_at word ts) f y e in (p.0, word_takes word ts p.0 p.1, p.2)

pub name_step : {B : Type 0} (ts : List Token) (f : Part (List ℕ) → Option B) (y : B) → (name_at ts >>= f) ≡ Some y → (x : Part (List ℕ)) × (ts ≡ Name x.0 ∷ x.1) × (f x ≡ Some y)
name_step ts f y e = let p = bind_some (name_at ts) f y e in (p.0, name_takes ts p.0.0 p.0.1 p.1, p.2)

pub number_step : {B : Type 0} (ts : List Token) (f : Part ℕ → Option B) (y : B) → (number_at ts >>= f) ≡ Some y → (x : Part ℕ) × (ts ≡ Number x.0 ∷ x.1) × (f x ≡ Some y)
number_step ts f y e = let p = bind_some (number_at ts) f y e in (p.0, number_takes ts p.0.0 p.0.1 p.1, p.2)

-- ---- readers

-- what is read is spelled so, and is a value that keeps to its rules
abbrev pub Takes : {A : Type 0} → (A → List Token) → (A → Type 0) → Reader A → Type 0
Takes {A} spell Valid read = (ts : List Token) (a : A) (rest : List Token) → read ts ≡ Some (part a rest) → (ts ≡ spell a ++ rest) × Valid a

-- a value that keeps to its rules is read where it is spelled
abbrev pub Again : {A : Type 0} → (A → List Token) → (A → Type 0) → Reader A → Type 0
Again {A} spell Valid read = (a : A) (rest : List Token) → Valid a → read (spell a ++ rest) ≡ Some (part a rest)
