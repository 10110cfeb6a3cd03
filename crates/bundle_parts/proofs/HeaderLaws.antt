-- Header lines, as readings of their tokens.
use Rattle.std.proofs.Common.{◌≡◌, ℕ, ◌<◌, ◌⊎◌, inl, inr, Bool, true, false, cond, List, [], ◌∷◌, ◌++◌, length, eqb, map, Option, None, Some, Err, refl, sym, ap, subst, ◌∙◌, arith}
use Rattle.std.specs.Prelude.{codes, nat_eq, slice_get}
use Rattle.std.specs.List.{list_all}
use Rattle.std.specs.Cmp.Lexicographic.{pointwise}
use Rattle.std.proofs.lemmas.Slice.Eq.{slice_eq-Decides}
use Rattle.std.proofs.lemmas.Bool.Decides.{Decides-eqb}
use Rattle.rl_defs.specs.declared.LoadFault.{LoadFault}
use Rattle.rl_defs.specs.declared.LoadFault.TheVariants.{Refused, Memory}
use Rattle.rl_defs.specs.declared.lexeme.Mark.TheVariants as m
use Rattle.rl_defs.specs.Refusals.{Answers}
use Rattle.rl_defs.specs.Tokens as t
use Rattle.rl_defs.specs.Tokens.{Token, Name, Sign, Placed, IsToken, HasTokens, IsSkipped, FailsTokens, is_blank}
use Rattle.rl_defs.specs.BundleParts as parts
use Rattle.rl_defs.specs.BundleParts.{header_word, header_place, IsHeader, IsAnyHeader, HeaderAt, LineIs}
use Rattle.rl_text.specs.declared.lexeme.Lexeme.{Lexeme}
use Rattle.rl_text.specs.Lexemes.{token_of}
use Rattle.rl_text.specs.Reading.{◌>>=◌, name_at, mark_at, end_at}
use Rattle.rl_text.proofs.Runs.{Stops, prefix_len-front}
use Rattle.rl_text.proofs.ReadingLaws.{one_reading}
use Rattle.rl_text.proofs.PartLaws.{bind_some, mark_step, name_step, end_takes}
use Rattle.bundle_parts.specs.declared.header.Header.{Header}
use Rattle.bundle_parts.specs.declared.header.Header.TheVariants as h
use Rattle.bundle_parts.specs.Headers.{header_of, header_named, header_at, IsOther, Sees, begins_with_bracket}

-- the tokens of a header
abbrev pub spell : parts.Header → List Token
spell g = Sign m.OpenBracket ∷ Name (header_word g) ∷ Sign m.CloseBracket ∷ []

abbrev pub code_of : parts.Header → Header
code_of parts.Interfaces = h.Interfaces
code_of parts.Domains = h.Domains
code_of parts.ThePlan = h.Plan
code_of parts.TheClients = h.Clients

pub code_back : (g : parts.Header) → header_of (code_of g) ≡ g
code_back parts.Interfaces = refl
code_back parts.Domains = refl
code_back parts.ThePlan = refl
code_back parts.TheClients = refl

same_word : (a b : List ℕ) → pointwise nat_eq a b ≡ true → a ≡ b
same_word a b e = (slice_eq-Decides Decides-eqb a b true (sym e)).0 refl

pick : (word text : List ℕ) (b : Bool) (x y : Header) (rest : Option Header) → pointwise nat_eq word text ≡ b → cond b (Some x) rest ≡ Some y → ((word ≡ text) × (x ≡ y)) ⊎ (rest ≡ Some y)
pick word text true x y rest is e = inl (same_word word text is, (let q : x ≡ y = cc in q))
pick word text false x y rest is e = inr e

word_is : (word : List ℕ) (x y : Header) → word ≡ header_word (header_of x) → x ≡ y → word ≡ header_word (header_of y)
word_is word x y is same = is ∙ ap (λ (z : Header). header_word (header_of z)) same

named_is : (word : List ℕ) (y : Header) → header_named word ≡ Some y → word ≡ header_word (header_of y)
named_is word y e = elim (pick word (codes "idl") (pointwise nat_eq word (codes "idl")) h.Interfaces y _ refl e) [
  | inl a ↦ word_is word h.Interfaces y a.0 a.1
  | inr e2 ↦ elim (pick word (codes "domains") (pointwise nat_eq word (codes "domains")) h.Domains y _ refl e2) [
    | inl a ↦ word_is word h.Domains y a.0 a.1
    | inr e3 ↦ elim (pick word (codes "plan") (pointwise nat_eq word (codes "plan")) h.Plan y _ refl e3) [
      | inl a ↦ word_is word h.Plan y a.0 a.1
      | inr e4 ↦ elim (pick word (codes "clients") (pointwise nat_eq word (codes "clients")) h.Clients y None refl e4) [
        | inl a ↦ word_is word h.Clients y a.0 a.1
        | inr e5 ↦ absurd cc
      ]
    ]
  ]
]

pub header_takes : (ts : List Token) (y : Header) → header_at ts ≡ Some y → ts ≡ spell (header_of y)
unfolding header_at
header_takes ts y e =
    let a = mark_step m.OpenBracket ts (λ a. name_at a >>= λ name. mark_at m.CloseBracket name.1 >>= λ b. end_at b >>= λ c. header_named name.0) y e in
    let b = name_step a.0 (λ name. mark_at m.CloseBracket name.1 >>= λ b. end_at b >>= λ c. header_named name.0) y a.2 in
    let c = mark_step m.CloseBracket b.0.1 (λ d. end_at d >>= λ c. header_named b.0.0) y b.2 in
    let d = bind_some (end_at c.0) (λ z. header_named b.0.0) y c.2 in
    let none : c.0 ≡ [] = end_takes c.0 d.0 d.1 in
    let word : b.0.0 ≡ header_word (header_of y) = named_is b.0.0 y d.2 in
    a.1 ∙ ap (λ (ts : List Token). Sign m.OpenBracket ∷ ts) (b.1 ∙ ap (λ (ts : List Token). Name b.0.0 ∷ ts) (c.1 ∙ ap (λ (ts : List Token). Sign m.CloseBracket ∷ ts) none)) ∙ ap (λ (w : List ℕ). Sign m.OpenBracket ∷ Name w ∷ Sign m.CloseBracket ∷ []) word

pub header_again : (g : parts.Header) → header_at (spell g) ≡ Some (code_of g)
unfolding header_at mark_at name_at end_at
header_again parts.Interfaces = refl
header_again parts.Domains = refl
header_again parts.ThePlan = refl
header_again parts.TheClients = refl

-- a text is one header at most
pub one_header : (f g : parts.Header) (text : List ℕ) → IsHeader f text → IsHeader g text → f ≡ g
one_header f g text x y =
    let e : Some (code_of f) ≡ Some (code_of g) = sym (header_again f) ∙ ap header_at (one_reading (spell f) (spell g) text x y) ∙ header_again g in
    let same : code_of f ≡ code_of g = cc in
    sym (code_back f) ∙ ap header_of same ∙ code_back g

-- a text without tokens is no header
pub skipped_no_header : (text : List ℕ) → IsSkipped text → IsAnyHeader text → ⊥
skipped_no_header text s x = let e = one_reading [] (spell x.0) text s x.1 in cc

pub place_back : ℕ → parts.Header
place_back n = cond (eqb n 0) parts.Interfaces (cond (eqb n 1) parts.Domains (cond (eqb n 2) parts.ThePlan parts.TheClients))

place_again : (g : parts.Header) → place_back (header_place g) ≡ g
unfolding place_back
place_again parts.Interfaces = refl
place_again parts.Domains = refl
place_again parts.ThePlan = refl
place_again parts.TheClients = refl

-- headers of one place are one header
pub one_place : (f g : parts.Header) → header_place f ≡ header_place g → f ≡ g
one_place f g e = sym (place_again f) ∙ ap place_back e ∙ place_again g

pub place_below : (g : parts.Header) → header_place g < 4
place_below parts.Interfaces = omega arith
place_below parts.Domains = omega arith
place_below parts.ThePlan = omega arith
place_below parts.TheClients = omega arith

-- a line of a number has one text
pub one_text : (texts : List (List ℕ)) (number : ℕ) (a b : List ℕ) → LineIs texts number a → LineIs texts number b → a ≡ b
one_text texts number a b x y =
    let s : y.place ≡ x.place = omega (arith, x.number_of, y.number_of) in
    let z : slice_get texts x.place ≡ Some b = subst (λ (k : ℕ). slice_get texts k ≡ Some b) s y.here in
    let w : Some a ≡ Some b = sym x.here ∙ z in
    (let q : a ≡ b = cc in q)

-- a line of a number is one header at most
pub one_header_at : (texts : List (List ℕ)) (number : ℕ) (f g : parts.Header) → HeaderAt texts number f → HeaderAt texts number g → f ≡ g
one_header_at texts number f g x y = one_header f g y.text (subst (λ (t : List ℕ). IsHeader f t) (one_text texts number x.text y.text x.line y.line) x.is) y.is

-- ---- what code finds of a line

-- tokens that code found to be a header
pub sees_header : (text : List ℕ) (items : List Lexeme) (y : Header) → HasTokens (map (token_of text) items) text → header_at (map (token_of text) items) ≡ Some y → IsHeader (header_of y) text
sees_header text items y has e = subst (λ (ts : List Token). HasTokens ts text) (header_takes (map (token_of text) items) y e) has

no_header : (text : List ℕ) (ts : List Token) → HasTokens ts text → header_at ts ≡ None → IsAnyHeader text → ⊥
no_header text ts has e x = let f = sym e ∙ ap header_at (one_reading ts (spell x.0) text has x.1) ∙ header_again x.0 in cc

-- tokens that code found to be no header
pub sees_other : (text : List ℕ) (items : List Lexeme) → eqb (length items) 0 ≡ false → HasTokens (map (token_of text) items) text → header_at (map (token_of text) items) ≡ None → IsOther text
sees_other text [] some has e = absurd cc
sees_other text (x ∷ items) some has e = record { first = token_of text x; more = map (token_of text) items; tokens = has; no_header = no_header text (map (token_of text) (x ∷ items)) has e }

-- a line that can have no tokens
pub fault_sees : (number : ℕ) (text : List ℕ) (fault : LoadFault) → Answers {X = Unit {0}} (FailsTokens number text) (λ _. Unit {0}) (Err fault) → Sees number text (Err fault)
fault_sees number text (Refused at) h = (h.fails.0, h.fails.1, λ ts has. h.fails.2 ts has)
fault_sees number text Memory h = tt

-- ---- the byte that tells a header

at_end : (front : List ℕ) (x : ℕ) (more : List ℕ) → slice_get (front ++ x ∷ more) (length front) ≡ Some x
at_end [] x more = refl
at_end (y ∷ front) x more = at_end front x more

brackets : (gap rest : List ℕ) → list_all is_blank gap ≡ true → begins_with_bracket (gap ++ 91 ∷ rest) ≡ true
brackets gap rest blank =
    let stops : Stops is_blank (91 ∷ rest) = refl in
    let n = prefix_len-front is_blank gap (91 ∷ rest) blank stops in
    rw (n, at_end gap 91 rest) refl

is_bracket_first : (ps : List Placed) (text : List ℕ) (more : List Token) → t.tokens_of ps ≡ Sign m.OpenBracket ∷ more → t.HasPlaced ps text → begins_with_bracket text ≡ true
is_bracket_first [] text more e has = absurd cc
is_bracket_first (p ∷ ps) text more e has =
    let token : p.token ≡ Sign m.OpenBracket = cc in
    let a = has.tokens in
    let gap : List ℕ = a.0 in
    let rest : List ℕ = a.2 in
    let begins = a.3 in
    let bracket : a.1 ≡ 91 ∷ [] = subst (λ (x : Token). IsToken x a.1) token begins.token in
    let is : text ≡ gap ++ (91 ∷ rest) = begins.parts ∙ ap (λ (x : List ℕ). gap ++ (x ++ rest)) bracket in
    ap begins_with_bracket is ∙ brackets gap rest begins.blank

-- a line whose first byte is another is no header
pub no_bracket : (text : List ℕ) → begins_with_bracket text ≡ false → IsAnyHeader text → ⊥
no_bracket text e x =
    let h : IsHeader x.0 text = x.1 in
    let f = sym e ∙ is_bracket_first h.0 text (Name (header_word x.0) ∷ Sign m.CloseBracket ∷ []) h.1 h.2 in
    cc

-- a line that has no tokens, or others, is no header
pub other_no_header : (text : List ℕ) → ((ts : List Token) → HasTokens ts text → ⊥) → IsAnyHeader text → ⊥
other_no_header text none x = none (spell x.0) x.1
