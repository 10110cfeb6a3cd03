-- The lists of parts in a line: what is read is spelled so, and what is spelled so is read.
use Rattle.std.proofs.Common.{◌≡◌, ℕ, inl, inr, false, cond, List, [], ◌∷◌, ◌++◌, Some, None, refl, sym, ap, ◌∙◌, append_assoc, append-nil}
use Rattle.rl_defs.specs.declared.code.Register.{Register}
use Rattle.rl_defs.specs.declared.code.CallArg.{CallArg}
use Rattle.rl_defs.specs.declared.code.CallArg.TheVariants as arg
use Rattle.rl_defs.specs.declared.code.HeadKind.{HeadKind}
use Rattle.rl_defs.specs.declared.code.HeadKind.TheVariants as head
use Rattle.rl_defs.specs.declared.code.HeadItem.{HeadItem}
use Rattle.rl_defs.specs.declared.lexeme.Key.TheVariants as k
use Rattle.rl_defs.specs.declared.lexeme.Mark.TheVariants as m
use Rattle.rl_defs.specs.Tokens.{Token, Name, Reserved, Sign}
use Rattle.rl_defs.specs.IdlForms.{spell_more}
use Rattle.rl_defs.specs.DomainForms.{spell_register, spell_some, spell_arg, spell_kind, spell_head}
use Rattle.rl_text.specs.Reading.{Reader, ◌>>=◌, either, name_at, mark_at, key_at, none_left}
use Rattle.rl_text.specs.Many.{all_at, list_at, some_at}
use Rattle.rl_text.proofs.PartLaws.{part, both_parts, bind_some, either_some, mark_takes, mark_again, mark_step, key_takes, key_step, name_step, name_again, Takes, Again}
use Rattle.rl_text.proofs.ManyLaws.{Shortens, shortens, all_takes, all_again}
use Rattle.domain_code.specs.Lists.{lent_at, passed_at, arg_at, struct_at, lent_struct_at, cap_at, lent_kind_at, own_at, kind_at, head_at}
use Rattle.domain_code.proofs.OperandLaws.{Fine, all_fine, register_again, register_step}

-- ---- lists

pub list_takes : {A : Type 0} (spell : A → List Token) (item : Reader A) → Takes spell Fine item → (ts : List Token) (all : List A) (rest : List Token) → list_at item ts ≡ Some (part all rest) → ts ≡ spell_some spell all ++ rest
unfolding list_at
list_takes {A} spell item takes ts all rest e =
    let x = bind_some (item ts) (λ first. all_at item first.1 >>= λ more. Some (part (first.0 ∷ more.0) more.1)) (part all rest) e in
    let y = bind_some (all_at item x.0.1) (λ more. Some (part (x.0.0 ∷ more.0) more.1)) (part all rest) x.2 in
    let p = takes ts x.0.0 x.0.1 x.1 in
    let q = all_takes spell Fine item takes x.0.1 y.0.0 y.0.1 y.1 in
    let r = both_parts (part (x.0.0 ∷ y.0.0) y.0.1) (part all rest) y.2 in
    p.0 ∙ ap (λ (t : List Token). spell x.0.0 ++ t) q.0 ∙ sym (append_assoc (spell x.0.0) (spell_more spell y.0.0) y.0.1) ∙ ap (λ (l : List A). spell_some spell l ++ y.0.1) r.0 ∙ ap (λ (t : List Token). spell_some spell all ++ t) r.1

pub list_again : {A : Type 0} (spell : A → List Token) (item : Reader A) → Again spell Fine item → (a : A) (more : List A) (rest : List Token) → mark_at m.Comma rest ≡ None → list_at item (spell_some spell (a ∷ more) ++ rest) ≡ Some (part (a ∷ more) rest)
unfolding list_at
list_again {A} spell item again a more rest none =
    ap (λ (t : List Token). item t >>= λ first. all_at item first.1 >>= λ others. Some (part (first.0 ∷ others.0) others.1)) (append_assoc (spell a) (spell_more spell more) rest)
    ∙ rw (again a (spell_more spell more ++ rest) tt, all_again spell Fine item again more rest (all_fine more) none) refl

some_case : {A : Type 0} (spell : A → List Token) (item : Reader A) → Takes spell Fine item → (ts : List Token) (all : List A) (rest : List Token) → cond (none_left ts) (Some (part [] ts)) (list_at item ts) ≡ Some (part all rest) → ts ≡ spell_some spell all ++ rest
some_case {A} spell item takes [] all rest e = let r = both_parts (part [] []) (part all rest) e in r.1 ∙ ap (λ (l : List A). spell_some spell l ++ rest) r.0
some_case spell item takes (t ∷ ts) all rest e = list_takes spell item takes (t ∷ ts) all rest e

pub some_takes : {A : Type 0} (spell : A → List Token) (item : Reader A) → Takes spell Fine item → (ts : List Token) (all : List A) (rest : List Token) → some_at item ts ≡ Some (part all rest) → ts ≡ spell_some spell all ++ rest
unfolding some_at
some_takes spell item takes ts all rest e = some_case spell item takes ts all rest e

no_comma : mark_at m.Comma [] ≡ None
unfolding mark_at
no_comma = refl

-- a part is no nothing
abbrev pub Something : {A : Type 0} → (A → List Token) → Type 0
Something {A} spell = (a : A) (rest : List Token) → none_left (spell a ++ rest) ≡ false

pub some_again : {A : Type 0} (spell : A → List Token) (item : Reader A) → Again spell Fine item → Something spell → (all : List A) → some_at item (spell_some spell all) ≡ Some (part all [])
unfolding some_at
some_again spell item again some [] = refl
some_again {A} spell item again some (a ∷ more) =
    let one = list_again spell item again a more [] no_comma in
    let e : list_at item (spell_some spell (a ∷ more)) ≡ Some (part (a ∷ more) []) = ap (list_at item) (sym (append-nil (spell_some spell (a ∷ more)))) ∙ one in
    rw (some a (spell_more spell more)) e

-- ---- arguments

moved : {A : Type 0} (spell : A → List Token) (ts : List Token) (a b : A) (x y : List Token) → Some (part a x) ≡ Some (part b y) → ts ≡ spell a ++ x → ts ≡ spell b ++ y
moved {A} spell ts a b x y e h = let q = both_parts (part a x) (part b y) e in h ∙ ap (λ (z : A). spell z ++ x) q.0 ∙ ap (λ (t : List Token). spell b ++ t) q.1

pub arg_takes : Takes spell_arg Fine arg_at
unfolding arg_at
arg_takes ts a rest e = (
  elim (either_some (mark_at m.Ampersand ts) lent_at (passed_at ts) (part a rest) e) [
    | inl x ↦ lent_case a ts x.x rest (mark_takes m.Ampersand ts x.x x.is) x.gives
    | inr x ↦ passed_case a ts rest x.1
  ],
  tt,
) where
  lent_case : (a : CallArg) (ts behind rest : List Token) → ts ≡ Sign m.Ampersand ∷ behind → lent_at behind ≡ Some (part a rest) → ts ≡ spell_arg a ++ rest
  lent_case a ts behind rest is e =
      let x = register_step behind (λ r. Some (part (arg.Lent r.0) r.1)) (part a rest) e in
      moved spell_arg ts (arg.Lent x.0.0) a x.0.1 rest x.2 (is ∙ ap (λ (t : List Token). Sign m.Ampersand ∷ t) x.1)

  passed_case : (a : CallArg) (ts rest : List Token) → passed_at ts ≡ Some (part a rest) → ts ≡ spell_arg a ++ rest
  passed_case a ts rest e =
      let x = register_step ts (λ r. Some (part (arg.Passed r.0) r.1)) (part a rest) e in
      moved spell_arg ts (arg.Passed x.0.0) a x.0.1 rest x.2 x.1

no_lender : (name : List ℕ) (rest : List Token) → mark_at m.Ampersand (Name name ∷ rest) ≡ None
unfolding mark_at
no_lender name rest = refl

pub arg_again : Again spell_arg Fine arg_at
unfolding arg_at
arg_again (arg.Passed r) rest valid = rw (no_lender _ rest, register_again r rest) refl
arg_again (arg.Lent r) rest valid = rw (mark_again m.Ampersand (spell_register r ∷ rest), register_again r rest) refl

pub arg_shortens : Shortens arg_at
arg_shortens = shortens spell_arg Fine arg_at arg_takes

-- ---- heads

struct_is : (ts : List Token) (name : List ℕ) (rest : List Token) → struct_at ts ≡ Some (part name rest) → ts ≡ Sign m.Less ∷ Name name ∷ Sign m.Greater ∷ rest
unfolding struct_at
struct_is ts name rest e =
    let x = mark_step m.Less ts (λ a. name_at a >>= λ n. mark_at m.Greater n.1 >>= λ b. Some (part n.0 b)) (part name rest) e in
    let y = name_step x.0 (λ n. mark_at m.Greater n.1 >>= λ b. Some (part n.0 b)) (part name rest) x.2 in
    let z = mark_step m.Greater y.0.1 (λ b. Some (part y.0.0 b)) (part name rest) y.2 in
    let q = both_parts (part y.0.0 z.0) (part name rest) z.2 in
    cc (x.1, y.1, z.1, q.0, q.1)

struct_again : (name : List ℕ) (rest : List Token) → struct_at (Sign m.Less ∷ Name name ∷ Sign m.Greater ∷ rest) ≡ Some (part name rest)
unfolding struct_at
struct_again name rest = rw (mark_again m.Less (Name name ∷ Sign m.Greater ∷ rest), name_again name (Sign m.Greater ∷ rest), mark_again m.Greater rest) refl

lent_struct_is : (kind : HeadKind) (ts a behind rest : List Token) → ts ≡ Sign m.Ampersand ∷ a → a ≡ Reserved k.RRef ∷ behind → lent_struct_at behind ≡ Some (part kind rest) → ts ≡ spell_kind kind ++ rest
lent_struct_is kind ts a behind rest one two e =
    let x = bind_some (struct_at behind) (λ name. Some (part (head.Lent name.0) name.1)) (part kind rest) e in
    let s = struct_is behind x.0.0 x.0.1 x.1 in
    moved spell_kind ts (head.Lent x.0.0) kind x.0.1 rest x.2 (one ∙ ap (λ (t : List Token). Sign m.Ampersand ∷ t) (two ∙ ap (λ (t : List Token). Reserved k.RRef ∷ t) s))

cap_is : (kind : HeadKind) (ts a rest : List Token) → ts ≡ Sign m.Ampersand ∷ a → cap_at a ≡ Some (part kind rest) → ts ≡ spell_kind kind ++ rest
cap_is kind ts a rest one e =
    let x = key_step k.Dyn a (λ b. name_at b >>= λ name. Some (part (head.Cap name.0) name.1)) (part kind rest) e in
    let y = name_step x.0 (λ name. Some (part (head.Cap name.0) name.1)) (part kind rest) x.2 in
    moved spell_kind ts (head.Cap y.0.0) kind y.0.1 rest y.2 (one ∙ ap (λ (t : List Token). Sign m.Ampersand ∷ t) (x.1 ∙ ap (λ (t : List Token). Reserved k.Dyn ∷ t) y.1))

lent_kind_is : (kind : HeadKind) (ts a rest : List Token) → ts ≡ Sign m.Ampersand ∷ a → lent_kind_at a ≡ Some (part kind rest) → ts ≡ spell_kind kind ++ rest
unfolding lent_kind_at
lent_kind_is kind ts a rest one e = elim (either_some (key_at k.RRef a) lent_struct_at (cap_at a) (part kind rest) e) [
  | inl x ↦ lent_struct_is kind ts a x.x rest one (key_takes k.RRef a x.x x.is) x.gives
  | inr x ↦ cap_is kind ts a rest one x.1
]

own_is : (kind : HeadKind) (ts rest : List Token) → own_at ts ≡ Some (part kind rest) → ts ≡ spell_kind kind ++ rest
own_is kind ts rest e =
    let x = key_step k.RRef ts (λ a. struct_at a >>= λ name. Some (part (head.Own name.0) name.1)) (part kind rest) e in
    let y = bind_some (struct_at x.0) (λ name. Some (part (head.Own name.0) name.1)) (part kind rest) x.2 in
    moved spell_kind ts (head.Own y.0.0) kind y.0.1 rest y.2 (x.1 ∙ ap (λ (t : List Token). Reserved k.RRef ∷ t) (struct_is x.0 y.0.0 y.0.1 y.1))

kind_is : (ts : List Token) (kind : HeadKind) (rest : List Token) → kind_at ts ≡ Some (part kind rest) → ts ≡ spell_kind kind ++ rest
unfolding kind_at
kind_is ts kind rest e = elim (either_some (key_at k.Num ts) (λ a. Some (part head.Num a)) (either (mark_at m.Ampersand ts) lent_kind_at (own_at ts)) (part kind rest) e) [
  | inl x ↦ moved spell_kind ts head.Num kind x.x rest x.gives (key_takes k.Num ts x.x x.is)
  | inr b ↦ elim (either_some (mark_at m.Ampersand ts) lent_kind_at (own_at ts) (part kind rest) b.1) [
    | inl x ↦ lent_kind_is kind ts x.x rest (mark_takes m.Ampersand ts x.x x.is) x.gives
    | inr c ↦ own_is kind ts rest c.1
  ]
]

kind_again : (kind : HeadKind) (rest : List Token) → kind_at (spell_kind kind ++ rest) ≡ Some (part kind rest)
unfolding kind_at lent_kind_at key_at mark_at
kind_again head.Num rest = refl
kind_again (head.Own ty) rest = rw (struct_again ty rest) refl
kind_again (head.Lent ty) rest = rw (struct_again ty rest) refl
kind_again (head.Cap has) rest = rw (name_again has rest) refl

abbrev heads : Register → HeadKind → HeadItem
heads r kind = record { register = r; kind = kind }

pub head_takes : Takes spell_head Fine head_at
unfolding head_at
head_takes ts item rest e =
    let x = register_step ts (λ r. kind_at r.1 >>= λ kind. Some (part (heads r.0 kind.0) kind.1)) (part item rest) e in
    let y = bind_some (kind_at x.0.1) (λ kind. Some (part (heads x.0.0 kind.0) kind.1)) (part item rest) x.2 in
    (moved spell_head ts (heads x.0.0 y.0.0) item y.0.1 rest y.2 (x.1 ∙ ap (λ (t : List Token). spell_register x.0.0 ∷ t) (kind_is x.0.1 y.0.0 y.0.1 y.1)), tt)

pub head_again : Again spell_head Fine head_at
unfolding head_at
head_again item rest valid = rw (register_again item.register (spell_kind item.kind ++ rest), kind_again item.kind rest) refl

pub head_shortens : Shortens head_at
head_shortens = shortens spell_head Fine head_at head_takes
