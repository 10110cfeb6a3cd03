-- Readings of a line, whatever its forms are: what is read is spelled so, and what is spelled so is read.
use Rattle.std.proofs.Common.{◌≡◌, ℕ, Bool, true, false, cond, List, [], ◌∷◌, ◌++◌, Option, Some, None, refl, sym, ap, subst, ◌∙◌, append_assoc, append-nil}
use Rattle.std.specs.Prelude.{nat_eq}
use Rattle.std.specs.Cmp.Lexicographic.{pointwise}
use Rattle.std.proofs.lemmas.Slice.Eq.{slice_eq-Decides}
use Rattle.std.proofs.lemmas.Bool.Decides.{Decides-eqb}
use Rattle.rl_defs.specs.declared.lexeme.Mark.TheVariants as m
use Rattle.rl_defs.specs.Tokens.{Token}
use Rattle.rl_defs.specs.IdlForms.{spell_more}
use Rattle.rl_defs.specs.DomainForms.{spell_some}
use Rattle.rl_defs.specs.BundleForms.{spell_name, spell_number}
use Rattle.rl_text.specs.Reading.{Reader, ◌>>=◌, name_at, number_at, mark_at, end_at, none_left}
use Rattle.rl_text.specs.Many.{all_at, list_at, some_at}
use Rattle.rl_text.proofs.PartLaws.{Part, part, both_parts, bind_some, name_takes, name_again, number_takes, number_again, end_takes, Takes, Again}
use Rattle.rl_text.proofs.ManyLaws.{AllValid, Shortens, shortens, all_takes, all_again}

-- each value of these parts keeps to its rules
abbrev pub Fine : {A : Type 0} → A → Type 0
Fine a = Unit {0}

pub all_fine : {A : Type 0} (l : List A) → AllValid Fine l
all_fine [] = tt
all_fine (a ∷ l) = (tt, all_fine l)

-- tokens behind another one
abbrev pub behind : Token → List Token → List Token
behind first t = first ∷ t

-- Behind a first token, what is read is the rest of the spelling of a value that keeps to its rules.
abbrev pub Behind : {A : Type 0} → (A → List Token) → (A → Type 0) → Token → Reader A → Type 0
Behind {A} spell Valid first read = (ts : List Token) (a : A) (rest : List Token) → read ts ≡ Some (part a rest) → (first ∷ ts ≡ spell a ++ rest) × Valid a

-- a value and the tokens behind it, under other names
pub moved : {A : Type 0} (spell : A → List Token) (Valid : A → Type 0) (ts : List Token) (a b : A) (x y : List Token) → Some (part a x) ≡ Some (part b y) → ts ≡ spell a ++ x → Valid a → (ts ≡ spell b ++ y) × Valid b
moved {A} spell Valid ts a b x y e h v =
    let q = both_parts (part a x) (part b y) e in
    (h ∙ ap (λ (z : A). spell z ++ x) q.0 ∙ ap (λ (t : List Token). spell b ++ t) q.1, subst (λ (z : A). Valid z) q.0 v)

-- the form that all tokens of a line spell
pub whole_takes : {A : Type 0} (spell : A → List Token) (Valid : A → Type 0) (read : Reader A) → Takes spell Valid read → (ts : List Token) (a : A) → (read ts >>= λ form. end_at form.1 >>= λ rest. Some form.0) ≡ Some a → (ts ≡ spell a) × Valid a
whole_takes {A} spell Valid read takes ts a e =
    let x = bind_some (read ts) (λ form. end_at form.1 >>= λ rest. Some form.0) a e in
    let y = bind_some (end_at x.0.1) (λ rest. Some x.0.0) a x.2 in
    let none : x.0.1 ≡ [] = end_takes x.0.1 y.0 y.1 in
    let same : x.0.0 ≡ a = (let f = y.2 in cc) in
    let p = takes ts x.0.0 x.0.1 x.1 in
    (p.0 ∙ ap (λ (t : List Token). spell x.0.0 ++ t) none ∙ append-nil (spell x.0.0) ∙ ap spell same, subst (λ (z : A). Valid z) same p.1)

-- ---- the words that lines begin with

same_text : (left right : List ℕ) → pointwise nat_eq left right ≡ true → right ≡ left
same_text left right is = sym ((slice_eq-Decides Decides-eqb left right true (sym is)).0 refl)

word_case : {V : Type 0} (text : V → List ℕ) (likely v : V) (word : List ℕ) (b : Bool) → pointwise nat_eq (text likely) word ≡ b → cond b (Some likely) None ≡ Some v → word ≡ text v
word_case text likely v word true is e = let same : likely ≡ v = cc in same_text (text likely) word is ∙ ap text same
word_case text likely v word false is e = absurd cc

-- a word that is found, of which one was likely, has its bytes
pub word_is : {V : Type 0} (text : V → List ℕ) (likely : Option V) (word : List ℕ) (v : V) → (likely >>= λ w. cond (pointwise nat_eq (text w) word) (Some w) None) ≡ Some v → word ≡ text v
word_is text likely word v e =
    let x = bind_some likely (λ w. cond (pointwise nat_eq (text w) word) (Some w) None) v e in
    word_case text x.0 v word _ refl x.2

-- ---- lists

list_parts : {A : Type 0} (item : Reader A) (ts : List Token) (all : List A) (rest : List Token) → list_at item ts ≡ Some (part all rest) → (x : Part A) × (y : Part (List A)) × (item ts ≡ Some x) × (all_at item x.1 ≡ Some y) × (x.0 ∷ y.0 ≡ all) × (y.1 ≡ rest)
unfolding list_at
list_parts {A} item ts all rest e =
    let x = bind_some (item ts) (λ first. all_at item first.1 >>= λ more. Some (part (first.0 ∷ more.0) more.1)) (part all rest) e in
    let y = bind_some (all_at item x.0.1) (λ more. Some (part (x.0.0 ∷ more.0) more.1)) (part all rest) x.2 in
    let q = both_parts (part (x.0.0 ∷ y.0.0) y.0.1) (part all rest) y.2 in
    (x.0, y.0, x.1, y.1, q.0, q.1)

pub list_takes : {A : Type 0} (spell : A → List Token) (item : Reader A) → Takes spell Fine item → (ts : List Token) (all : List A) (rest : List Token) → list_at item ts ≡ Some (part all rest) → ts ≡ spell_some spell all ++ rest
list_takes {A} spell item takes ts all rest e =
    let l = list_parts item ts all rest e in
    let x : Part A = l.0 in
    let y : Part (List A) = l.1 in
    let p = takes ts x.0 x.1 l.2 in
    let q = all_takes spell Fine item takes x.1 y.0 y.1 l.3 in
    p.0 ∙ ap (λ (t : List Token). spell x.0 ++ t) q.0 ∙ sym (append_assoc (spell x.0) (spell_more spell y.0) y.1) ∙ ap (λ (z : List A). spell_some spell z ++ y.1) l.4 ∙ ap (λ (t : List Token). spell_some spell all ++ t) l.5

not_empty : {A : Type 0} (a : A) (more all : List A) → a ∷ more ≡ all → all ≡ [] → ⊥
not_empty a more all is none = let e = is ∙ none in cc

-- a list that is read has a part
pub list_some : {A : Type 0} (item : Reader A) (ts : List Token) (all : List A) (rest : List Token) → list_at item ts ≡ Some (part all rest) → all ≡ [] → ⊥
list_some {A} item ts all rest e none =
    let l = list_parts item ts all rest e in
    let x : Part A = l.0 in
    let y : Part (List A) = l.1 in
    not_empty x.0 y.0 all l.4 none

pub list_again : {A : Type 0} (spell : A → List Token) (item : Reader A) → Again spell Fine item → (a : A) (more : List A) (rest : List Token) → mark_at m.Comma rest ≡ None → list_at item (spell_some spell (a ∷ more) ++ rest) ≡ Some (part (a ∷ more) rest)
unfolding list_at
list_again {A} spell item again a more rest none =
    ap (λ (t : List Token). item t >>= λ first. all_at item first.1 >>= λ others. Some (part (first.0 ∷ others.0) others.1)) (append_assoc (spell a) (spell_more spell more) rest)
    ∙ rw (again a (spell_more spell more ++ rest) tt, all_again spell Fine item again more rest (all_fine more) none) refl

no_comma : mark_at m.Comma [] ≡ None
unfolding mark_at
no_comma = refl

-- a list up to the end of the line
pub list_whole : {A : Type 0} (spell : A → List Token) (item : Reader A) → Again spell Fine item → (a : A) (more : List A) → list_at item (spell_some spell (a ∷ more)) ≡ Some (part (a ∷ more) [])
list_whole spell item again a more = ap (list_at item) (sym (append-nil (spell_some spell (a ∷ more)))) ∙ list_again spell item again a more [] no_comma

some_case : {A : Type 0} (spell : A → List Token) (item : Reader A) → Takes spell Fine item → (ts : List Token) (all : List A) (rest : List Token) → cond (none_left ts) (Some (part [] ts)) (list_at item ts) ≡ Some (part all rest) → ts ≡ spell_some spell all ++ rest
some_case {A} spell item takes [] all rest e = let r = both_parts (part [] []) (part all rest) e in r.1 ∙ ap (λ (l : List A). spell_some spell l ++ rest) r.0
some_case spell item takes (t ∷ ts) all rest e = list_takes spell item takes (t ∷ ts) all rest e

pub some_takes : {A : Type 0} (spell : A → List Token) (item : Reader A) → Takes spell Fine item → (ts : List Token) (all : List A) (rest : List Token) → some_at item ts ≡ Some (part all rest) → ts ≡ spell_some spell all ++ rest
unfolding some_at
some_takes spell item takes ts all rest e = some_case spell item takes ts all rest e

-- a part is no nothing
abbrev pub Something : {A : Type 0} → (A → List Token) → Type 0
Something {A} spell = (a : A) (rest : List Token) → none_left (spell a ++ rest) ≡ false

pub some_again : {A : Type 0} (spell : A → List Token) (item : Reader A) → Again spell Fine item → Something spell → (all : List A) → some_at item (spell_some spell all) ≡ Some (part all [])
unfolding some_at
some_again spell item again some [] = refl
some_again spell item again some (a ∷ more) = rw (some a (spell_more spell more)) (list_whole spell item again a more)

-- ---- names and numbers

pub names_take : Takes spell_name Fine name_at
names_take ts name rest e = (name_takes ts name rest e, tt)

pub names_again : Again spell_name Fine name_at
names_again name rest valid = name_again name rest

pub name_shortens : Shortens name_at
name_shortens = shortens spell_name Fine name_at names_take

pub numbers_take : Takes spell_number Fine number_at
numbers_take ts n rest e = (number_takes ts n rest e, tt)

pub numbers_again : Again spell_number Fine number_at
numbers_again n rest valid = number_again n rest

pub number_shortens : Shortens number_at
number_shortens = shortens spell_number Fine number_at numbers_take

pub number_something : Something spell_number
number_something n rest = refl
