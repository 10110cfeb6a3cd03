-- Types: what is read is spelled so, and what is spelled so is read.
use Rattle.std.proofs.Common.{◌≡◌, ℕ, zero, suc, ◌-◌, ◌<◌, inl, inr, Bool, true, false, cond, ◌&&◌, leb, List, [], ◌∷◌, ◌++◌, length, Option, None, Some, refl, sym, ap, subst, ◌∙◌, append_assoc, arith}
use Rattle.std.specs.Prelude.{nat_le}
use Rattle.std.proofs.lemmas.Bool.Decides.{nat_tests}
use Rattle.rl_defs.specs.declared.lexeme.Key.{Key}
use Rattle.rl_defs.specs.declared.lexeme.Key.TheVariants as k
use Rattle.rl_defs.specs.declared.lexeme.Mark.TheVariants as m
use Rattle.rl_defs.specs.declared.tables.Width.TheVariants as width
use Rattle.rl_defs.specs.declared.idl.Wrap.{Wrap}
use Rattle.rl_defs.specs.declared.idl.Wrap.TheVariants as wrap
use Rattle.rl_defs.specs.declared.idl.Base.{Base}
use Rattle.rl_defs.specs.declared.idl.Base.TheVariants as base
use Rattle.rl_defs.specs.declared.idl.TypeText.{TypeText}
use Rattle.rl_defs.specs.Tokens.{Token, Name, Reserved, Number, Text, Sign}
use Rattle.rl_defs.specs.IdlForms.{spell_base, spell_round, spell_type, IsWrap, MayHold, AreWraps}
use Rattle.rl_text.specs.Reading.{Reader, ◌>>=◌, either, name_at, number_at, mark_at, key_at, first_key, behind_first}
use Rattle.rl_text.proofs.PartLaws.{part, both_parts, bind_some, either_some, mark_takes, key_takes, mark_step, name_step, number_step, Takes, Again}
use Rattle.rl_text.proofs.Runs.{and_true}
use Rattle.idl_syntax.specs.Types.{angled_at, plain, wrapped, base_by, base_at, wrap_at, array_at, boxed_at, lent_by, lent_at, pointer_by, pointer_at, plain_at, type_at}

key_first : (ts : List Token) (key : Key) → first_key ts ≡ Some key → ts ≡ Reserved key ∷ behind_first ts
key_first [] key e = absurd cc
key_first (Name w ∷ ts) key e = absurd cc
key_first (Reserved other ∷ ts) key e = let same : other ≡ key = cc in ap (λ (x : Key). Reserved x ∷ ts) same
key_first (Number n ∷ ts) key e = absurd cc
key_first (Text inner ∷ ts) key e = absurd cc
key_first (Sign mark ∷ ts) key e = absurd cc

angled_takes : (ts : List Token) (name : List ℕ) (rest : List Token) → angled_at ts ≡ Some (part name rest) → ts ≡ Sign m.Less ∷ Name name ∷ Sign m.Greater ∷ rest
unfolding angled_at
angled_takes ts name rest e =
    let x = mark_step m.Less ts (λ a. name_at a >>= λ n. mark_at m.Greater n.1 >>= λ b. Some (part n.0 b)) (part name rest) e in
    let y = name_step x.0 (λ n. mark_at m.Greater n.1 >>= λ b. Some (part n.0 b)) (part name rest) x.2 in
    let z = mark_step m.Greater y.0.1 (λ b. Some (part y.0.0 b)) (part name rest) y.2 in
    let q = both_parts (part y.0.0 z.0) (part name rest) z.2 in
    cc (x.1, y.1, z.1, q.0, q.1)

-- ---- types that hold free other

base_plain : (a b : Base) (ts behind rest : List Token) (tokens : List Token) → ts ≡ tokens ++ behind → spell_base a ≡ tokens → Some (part a behind) ≡ Some (part b rest) → ts ≡ spell_base b ++ rest
base_plain a b ts behind rest tokens is spelled e =
    let q = both_parts (part a behind) (part b rest) e in
    is ∙ ap (λ (x : List Token). x ++ behind) (sym spelled) ∙ ap (λ (x : Base). spell_base x ++ behind) q.0 ∙ ap (λ (x : List Token). spell_base b ++ x) q.1

base_rref : (b : Base) (ts behind rest : List Token) → ts ≡ Reserved k.RRef ∷ behind → (angled_at behind >>= λ name. Some (part (base.RRef name.0) name.1)) ≡ Some (part b rest) → ts ≡ spell_base b ++ rest
base_rref b ts behind rest is e =
    let x = bind_some (angled_at behind) (λ name. Some (part (base.RRef name.0) name.1)) (part b rest) e in
    let parts = angled_takes behind x.0.0 x.0.1 x.1 in
    base_plain (base.RRef x.0.0) b ts x.0.1 rest _ (is ∙ ap (λ (t : List Token). Reserved k.RRef ∷ t) parts) refl x.2

base_function : (b : Base) (ts behind rest : List Token) → ts ≡ Reserved k.Fn ∷ behind → (mark_at m.OpenParen behind >>= λ a. mark_at m.CloseParen a >>= λ c. Some (part base.Function c)) ≡ Some (part b rest) → ts ≡ spell_base b ++ rest
base_function b ts behind rest is e =
    let x = mark_step m.OpenParen behind (λ a. mark_at m.CloseParen a >>= λ c. Some (part base.Function c)) (part b rest) e in
    let y = mark_step m.CloseParen x.0 (λ c. Some (part base.Function c)) (part b rest) x.2 in
    base_plain base.Function b ts y.0 rest _ (is ∙ ap (λ (t : List Token). Reserved k.Fn ∷ t) (x.1 ∙ ap (λ (t : List Token). Sign m.OpenParen ∷ t) y.1)) refl y.2

base_case : (r : Option Key) (b : Base) (ts rest : List Token) → first_key ts ≡ r → base_by r ts ≡ Some (part b rest) → ts ≡ spell_base b ++ rest
base_case (Some k.Bool) b ts rest is e = base_plain (base.Num width.Bool) b ts (behind_first ts) rest _ (key_first ts k.Bool is) refl e
base_case (Some k.U8) b ts rest is e = base_plain (base.Num width.W8) b ts (behind_first ts) rest _ (key_first ts k.U8 is) refl e
base_case (Some k.U16) b ts rest is e = base_plain (base.Num width.W16) b ts (behind_first ts) rest _ (key_first ts k.U16 is) refl e
base_case (Some k.U32) b ts rest is e = base_plain (base.Num width.W32) b ts (behind_first ts) rest _ (key_first ts k.U32 is) refl e
base_case (Some k.U64) b ts rest is e = base_plain (base.Num width.W64) b ts (behind_first ts) rest _ (key_first ts k.U64 is) refl e
base_case (Some k.String) b ts rest is e = base_plain base.String b ts (behind_first ts) rest _ (key_first ts k.String is) refl e
base_case (Some k.RRef) b ts rest is e = base_rref b ts (behind_first ts) rest (key_first ts k.RRef is) e
base_case (Some k.Fn) b ts rest is e = base_function b ts (behind_first ts) rest (key_first ts k.Fn is) e
base_case (Some k.Pub) b ts rest is e = absurd cc
base_case (Some k.Struct) b ts rest is e = absurd cc
base_case (Some k.Trait) b ts rest is e = absurd cc
base_case (Some k.SelfWord) b ts rest is e = absurd cc
base_case (Some k.RpcResult) b ts rest is e = absurd cc
base_case (Some k.Dyn) b ts rest is e = absurd cc
base_case (Some k.Mut) b ts rest is e = absurd cc
base_case (Some k.Const) b ts rest is e = absurd cc
base_case (Some k.Box) b ts rest is e = absurd cc
base_case (Some k.Vec) b ts rest is e = absurd cc
base_case (Some k.Num) b ts rest is e = absurd cc
base_case None b ts rest is e =
    let x = name_step ts (λ name. Some (part (base.Struct name.0) name.1)) (part b rest) e in
    base_plain (base.Struct x.0.0) b ts x.0.1 rest _ x.1 refl x.2

base_takes : (b : Base) (ts rest : List Token) → base_at ts ≡ Some (part b rest) → ts ≡ spell_base b ++ rest
unfolding base_at
base_takes b ts rest e = base_case (first_key ts) b ts rest refl e

-- ---- types in wraps

-- so many types stand in one another at most, and the wraps are wraps
abbrev pub IsTypeIn : ℕ → TypeText → Type 0
IsTypeIn room ty = (length ty.wraps < room) × AreWraps ty.wraps ty.base

-- what a reader gives is spelled so
abbrev Gave : ℕ → List Token → TypeText → List Token → Type 0
Gave room ts ty rest = (ts ≡ spell_type ty ++ rest) × IsTypeIn room ty

moved : (room : ℕ) (ts : List Token) (a b : TypeText) (x y : List Token) → Some (part a x) ≡ Some (part b y) → Gave room ts a x → Gave room ts b y
moved room ts a b x y e h =
    let q = both_parts (part a x) (part b y) e in
    subst (λ (z : List Token). Gave room ts b z) q.1 (subst (λ (z : TypeText). Gave room ts z x) q.0 h)

in_wrap : (room : ℕ) (w : Wrap) (ty : TypeText) → IsWrap w → MayHold w ty.wraps ty.base → IsTypeIn room ty → IsTypeIn (suc room) (wrapped w ty)
in_wrap room w ty is may h = (omega (arith, h.0), (is, may, h.1))

abbrev front : Wrap → List Token
front wrap.Ref = Sign m.Ampersand ∷ []
front wrap.RefMut = Sign m.Ampersand ∷ Reserved k.Mut ∷ []
front wrap.PointerConst = Sign m.Star ∷ Reserved k.Const ∷ []
front wrap.PointerMut = Sign m.Star ∷ Reserved k.Mut ∷ []
front w = []

-- a wrap that ends where the type does
wrap_takes : (room : ℕ) (w : Wrap) (inner : Reader TypeText) (ts behind rest : List Token) (ty : TypeText) → ((t : TypeText) → spell_type (wrapped w t) ≡ front w ++ spell_type t) → IsWrap w → ((t : TypeText) (r : List Token) → inner behind ≡ Some (part t r) → MayHold w t.wraps t.base) → Takes spell_type (IsTypeIn room) inner → ts ≡ front w ++ behind → wrap_at w inner behind ≡ Some (part ty rest) → Gave (suc room) ts ty rest
wrap_takes room w inner ts behind rest ty spelled is may takes parts e =
    let x = bind_some (inner behind) (λ t. Some (part (wrapped w t.0) t.1)) (part ty rest) e in
    let p = takes behind x.0.0 x.0.1 x.1 in
    moved (suc room) ts (wrapped w x.0.0) ty x.0.1 rest x.2 (
      parts ∙ ap (λ (t : List Token). front w ++ t) p.0 ∙ sym (append_assoc (front w) (spell_type x.0.0) x.0.1) ∙ ap (λ (t : List Token). t ++ x.0.1) (sym (spelled x.0.0)),
      in_wrap room w x.0.0 is (may x.0.0 x.0.1 x.1) p.1,
    )

count_case : (b : Bool) (n : ℕ) (t : TypeText) (c : List Token) (ty : TypeText) (rest : List Token) → (nat_le 1 n && nat_le n 65535) ≡ b → cond b (Some (part (wrapped (wrap.Array n) t) c)) None ≡ Some (part ty rest) → IsWrap (wrap.Array n) × (Some (part (wrapped (wrap.Array n) t) c) ≡ Some (part ty rest))
count_case true n t c ty rest is e =
    let p = and_true (nat_le 1 n) (nat_le n 65535) is in
    let low : leb 1 n ≡ true = p.0 in
    let high : leb n 65535 ≡ true = p.1 in
    ((grind (arith, nat_tests), grind (arith, nat_tests)), e)
count_case false n t c ty rest is e = absurd cc

array_takes : (room : ℕ) (inner : Reader TypeText) (ts behind rest : List Token) (ty : TypeText) → Takes spell_type (IsTypeIn room) inner → ts ≡ Sign m.OpenBracket ∷ behind → array_at inner behind ≡ Some (part ty rest) → Gave (suc room) ts ty rest
array_takes room inner ts behind rest ty takes is e =
    let x = bind_some (inner behind) (λ t. mark_at m.Semicolon t.1 >>= λ a. number_at a >>= λ n. mark_at m.CloseBracket n.1 >>= λ b. cond (nat_le 1 n.0 && nat_le n.0 65535) (Some (part (wrapped (wrap.Array n.0) t.0) b)) None) (part ty rest) e in
    let p = takes behind x.0.0 x.0.1 x.1 in
    let y = mark_step m.Semicolon x.0.1 (λ a. number_at a >>= λ n. mark_at m.CloseBracket n.1 >>= λ b. cond (nat_le 1 n.0 && nat_le n.0 65535) (Some (part (wrapped (wrap.Array n.0) x.0.0) b)) None) (part ty rest) x.2 in
    let z = number_step y.0 (λ n. mark_at m.CloseBracket n.1 >>= λ b. cond (nat_le 1 n.0 && nat_le n.0 65535) (Some (part (wrapped (wrap.Array n.0) x.0.0) b)) None) (part ty rest) y.2 in
    let w = mark_step m.CloseBracket z.0.1 (λ b. cond (nat_le 1 z.0.0 && nat_le z.0.0 65535) (Some (part (wrapped (wrap.Array z.0.0) x.0.0) b)) None) (part ty rest) z.2 in
    let c = count_case _ z.0.0 x.0.0 w.0 ty rest refl w.2 in
    let tail : List Token = Sign m.Semicolon ∷ Number z.0.0 ∷ Sign m.CloseBracket ∷ [] in
    let last : x.0.1 ≡ tail ++ w.0 = cc (y.1, z.1, w.1) in
    moved (suc room) ts (wrapped (wrap.Array z.0.0) x.0.0) ty w.0 rest c.1 (
      is ∙ ap (λ (t : List Token). Sign m.OpenBracket ∷ t) (p.0 ∙ ap (λ (t : List Token). spell_type x.0.0 ++ t) last ∙ sym (append_assoc (spell_type x.0.0) tail w.0)),
      in_wrap room (wrap.Array z.0.0) x.0.0 c.0 tt p.1,
    )

boxed_takes : (room : ℕ) (w : Wrap) (key : Key) (inner : Reader TypeText) (ts behind rest : List Token) (ty : TypeText) → ((t : TypeText) → spell_type (wrapped w t) ≡ Reserved key ∷ Sign m.Less ∷ spell_type t ++ (Sign m.Greater ∷ [])) → IsWrap w → ((t : TypeText) → MayHold w t.wraps t.base) → Takes spell_type (IsTypeIn room) inner → ts ≡ Reserved key ∷ behind → boxed_at w inner behind ≡ Some (part ty rest) → Gave (suc room) ts ty rest
boxed_takes room w key inner ts behind rest ty spelled is may takes parts e =
    let x = mark_step m.Less behind (λ a. inner a >>= λ t. mark_at m.Greater t.1 >>= λ b. Some (part (wrapped w t.0) b)) (part ty rest) e in
    let y = bind_some (inner x.0) (λ t. mark_at m.Greater t.1 >>= λ b. Some (part (wrapped w t.0) b)) (part ty rest) x.2 in
    let p = takes x.0 y.0.0 y.0.1 y.1 in
    let z = mark_step m.Greater y.0.1 (λ b. Some (part (wrapped w y.0.0) b)) (part ty rest) y.2 in
    moved (suc room) ts (wrapped w y.0.0) ty z.0 rest z.2 (
      parts ∙ ap (λ (t : List Token). Reserved key ∷ t) (x.1 ∙ ap (λ (t : List Token). Sign m.Less ∷ t) (p.0 ∙ ap (λ (t : List Token). spell_type y.0.0 ++ t) z.1 ∙ sym (append_assoc (spell_type y.0.0) (Sign m.Greater ∷ []) z.0))) ∙ ap (λ (t : List Token). t ++ z.0) (sym (spelled y.0.0)),
      in_wrap room w y.0.0 is (may y.0.0) p.1,
    )

-- the type behind a `&` doesn't begin with `RRef`
no_rref : (t : TypeText) (ts rest : List Token) → (first_key ts ≡ Some k.RRef → ⊥) → ts ≡ spell_type t ++ rest → MayHold wrap.Ref t.wraps t.base
no_rref t ts rest free e = go t.wraps t.base e where
  go : (ws : List Wrap) (b : Base) → ts ≡ spell_round ws b ++ rest → MayHold wrap.Ref ws b
  go [] (base.Num w) e = tt
  go [] (base.Struct name) e = tt
  go [] (base.RRef name) e = free (ap first_key e)
  go [] (base.LentRRef name) e = tt
  go [] (base.Dyn name) e = tt
  go [] base.String e = tt
  go [] base.Function e = tt
  go (w ∷ ws) b e = tt

plain_gave : (room : ℕ) (ts rest : List Token) (b : Base) (ty : TypeText) (behind : List Token) → ts ≡ spell_base b ++ behind → Some (part (plain b) behind) ≡ Some (part ty rest) → Gave (suc room) ts ty rest
plain_gave room ts rest b ty behind is e = moved (suc room) ts (plain b) ty behind rest e (is, (omega arith, tt))

ref_takes : (room : ℕ) (inner : Reader TypeText) (ts behind rest : List Token) (ty : TypeText) → Takes spell_type (IsTypeIn room) inner → (first_key behind ≡ Some k.RRef → ⊥) → ts ≡ Sign m.Ampersand ∷ behind → wrap_at wrap.Ref inner behind ≡ Some (part ty rest) → Gave (suc room) ts ty rest
ref_takes room inner ts behind rest ty takes free is e = wrap_takes room wrap.Ref inner ts behind rest ty (λ t. refl) tt (λ t r f. no_rref t behind r free (takes behind t r f).0) takes is e

other_key : (ts : List Token) (key : Key) → first_key ts ≡ Some key → (key ≡ k.RRef → ⊥) → first_key ts ≡ Some k.RRef → ⊥
other_key ts key is free e = let f : Some key ≡ Some k.RRef = sym is ∙ e in free cc

no_key : (ts : List Token) → first_key ts ≡ None → first_key ts ≡ Some k.RRef → ⊥
no_key ts is e = let f = sym is ∙ e in cc

lent_takes : (room : ℕ) (inner : Reader TypeText) (ts behind rest : List Token) (ty : TypeText) → Takes spell_type (IsTypeIn room) inner → ts ≡ Sign m.Ampersand ∷ behind → (r : Option Key) → first_key behind ≡ r → lent_by r inner behind ≡ Some (part ty rest) → Gave (suc room) ts ty rest
lent_takes room inner ts behind rest ty takes is (Some k.RRef) first e =
    let x = bind_some (angled_at (behind_first behind)) (λ name. Some (part (plain (base.LentRRef name.0)) name.1)) (part ty rest) e in
    plain_gave room ts rest (base.LentRRef x.0.0) ty x.0.1 (is ∙ ap (λ (t : List Token). Sign m.Ampersand ∷ t) (key_first behind k.RRef first ∙ ap (λ (t : List Token). Reserved k.RRef ∷ t) (angled_takes (behind_first behind) x.0.0 x.0.1 x.1))) x.2
lent_takes room inner ts behind rest ty takes is (Some k.Dyn) first e =
    let x = name_step (behind_first behind) (λ name. Some (part (plain (base.Dyn name.0)) name.1)) (part ty rest) e in
    plain_gave room ts rest (base.Dyn x.0.0) ty x.0.1 (is ∙ ap (λ (t : List Token). Sign m.Ampersand ∷ t) (key_first behind k.Dyn first ∙ ap (λ (t : List Token). Reserved k.Dyn ∷ t) x.1)) x.2
lent_takes room inner ts behind rest ty takes is (Some k.Mut) first e =
    wrap_takes room wrap.RefMut inner ts (behind_first behind) rest ty (λ t. refl) tt (λ t r f. tt) takes (is ∙ ap (λ (t : List Token). Sign m.Ampersand ∷ t) (key_first behind k.Mut first)) e
lent_takes room inner ts behind rest ty takes is None first e = ref_takes room inner ts behind rest ty takes (no_key behind first) is e
lent_takes room inner ts behind rest ty takes is (Some k.Pub) first e = ref_takes room inner ts behind rest ty takes (other_key behind k.Pub first (λ x. absurd cc)) is e
lent_takes room inner ts behind rest ty takes is (Some k.Struct) first e = ref_takes room inner ts behind rest ty takes (other_key behind k.Struct first (λ x. absurd cc)) is e
lent_takes room inner ts behind rest ty takes is (Some k.Trait) first e = ref_takes room inner ts behind rest ty takes (other_key behind k.Trait first (λ x. absurd cc)) is e
lent_takes room inner ts behind rest ty takes is (Some k.Fn) first e = ref_takes room inner ts behind rest ty takes (other_key behind k.Fn first (λ x. absurd cc)) is e
lent_takes room inner ts behind rest ty takes is (Some k.SelfWord) first e = ref_takes room inner ts behind rest ty takes (other_key behind k.SelfWord first (λ x. absurd cc)) is e
lent_takes room inner ts behind rest ty takes is (Some k.RpcResult) first e = ref_takes room inner ts behind rest ty takes (other_key behind k.RpcResult first (λ x. absurd cc)) is e
lent_takes room inner ts behind rest ty takes is (Some k.Const) first e = ref_takes room inner ts behind rest ty takes (other_key behind k.Const first (λ x. absurd cc)) is e
lent_takes room inner ts behind rest ty takes is (Some k.Box) first e = ref_takes room inner ts behind rest ty takes (other_key behind k.Box first (λ x. absurd cc)) is e
lent_takes room inner ts behind rest ty takes is (Some k.Vec) first e = ref_takes room inner ts behind rest ty takes (other_key behind k.Vec first (λ x. absurd cc)) is e
lent_takes room inner ts behind rest ty takes is (Some k.String) first e = ref_takes room inner ts behind rest ty takes (other_key behind k.String first (λ x. absurd cc)) is e
lent_takes room inner ts behind rest ty takes is (Some k.Bool) first e = ref_takes room inner ts behind rest ty takes (other_key behind k.Bool first (λ x. absurd cc)) is e
lent_takes room inner ts behind rest ty takes is (Some k.U8) first e = ref_takes room inner ts behind rest ty takes (other_key behind k.U8 first (λ x. absurd cc)) is e
lent_takes room inner ts behind rest ty takes is (Some k.U16) first e = ref_takes room inner ts behind rest ty takes (other_key behind k.U16 first (λ x. absurd cc)) is e
lent_takes room inner ts behind rest ty takes is (Some k.U32) first e = ref_takes room inner ts behind rest ty takes (other_key behind k.U32 first (λ x. absurd cc)) is e
lent_takes room inner ts behind rest ty takes is (Some k.U64) first e = ref_takes room inner ts behind rest ty takes (other_key behind k.U64 first (λ x. absurd cc)) is e
lent_takes room inner ts behind rest ty takes is (Some k.Num) first e = ref_takes room inner ts behind rest ty takes (other_key behind k.Num first (λ x. absurd cc)) is e

pointer_takes : (room : ℕ) (inner : Reader TypeText) (ts behind rest : List Token) (ty : TypeText) → Takes spell_type (IsTypeIn room) inner → ts ≡ Sign m.Star ∷ behind → (r : Option Key) → first_key behind ≡ r → pointer_by r inner behind ≡ Some (part ty rest) → Gave (suc room) ts ty rest
pointer_takes room inner ts behind rest ty takes is (Some k.Const) first e =
    wrap_takes room wrap.PointerConst inner ts (behind_first behind) rest ty (λ t. refl) tt (λ t r f. tt) takes (is ∙ ap (λ (t : List Token). Sign m.Star ∷ t) (key_first behind k.Const first)) e
pointer_takes room inner ts behind rest ty takes is (Some k.Mut) first e =
    wrap_takes room wrap.PointerMut inner ts (behind_first behind) rest ty (λ t. refl) tt (λ t r f. tt) takes (is ∙ ap (λ (t : List Token). Sign m.Star ∷ t) (key_first behind k.Mut first)) e
pointer_takes room inner ts behind rest ty takes is None first e = absurd cc
pointer_takes room inner ts behind rest ty takes is (Some key) first e = absurd cc

plain_takes : (room : ℕ) (ts rest : List Token) (ty : TypeText) → plain_at ts ≡ Some (part ty rest) → Gave (suc room) ts ty rest
plain_takes room ts rest ty e =
    let x = bind_some (base_at ts) (λ b. Some (part (plain b.0) b.1)) (part ty rest) e in
    plain_gave room ts rest x.0.0 ty x.0.1 (base_takes x.0.0 ts x.0.1 x.1) x.2

step_takes : (room : ℕ) (inner : Reader TypeText) → Takes spell_type (IsTypeIn room) inner → (ts : List Token) (ty : TypeText) (rest : List Token) → either (mark_at m.OpenBracket ts) (array_at inner) (either (mark_at m.Ampersand ts) (lent_at inner) (either (mark_at m.Star ts) (pointer_at inner) (either (key_at k.Box ts) (boxed_at wrap.Box inner) (either (key_at k.Vec ts) (boxed_at wrap.Vec inner) (plain_at ts))))) ≡ Some (part ty rest) → Gave (suc room) ts ty rest
step_takes room inner takes ts ty rest e = elim (either_some (mark_at m.OpenBracket ts) (array_at inner) _ (part ty rest) e) [
  | inl x ↦ array_takes room inner ts x.x rest ty takes (mark_takes m.OpenBracket ts x.x x.is) x.gives
  | inr a ↦ elim (either_some (mark_at m.Ampersand ts) (lent_at inner) _ (part ty rest) a.1) [
    | inl x ↦ lent_takes room inner ts x.x rest ty takes (mark_takes m.Ampersand ts x.x x.is) (first_key x.x) refl x.gives
    | inr b ↦ elim (either_some (mark_at m.Star ts) (pointer_at inner) _ (part ty rest) b.1) [
      | inl x ↦ pointer_takes room inner ts x.x rest ty takes (mark_takes m.Star ts x.x x.is) (first_key x.x) refl x.gives
      | inr c ↦ elim (either_some (key_at k.Box ts) (boxed_at wrap.Box inner) _ (part ty rest) c.1) [
        | inl x ↦ boxed_takes room wrap.Box k.Box inner ts x.x rest ty (λ t. refl) tt (λ t. tt) takes (key_takes k.Box ts x.x x.is) x.gives
        | inr d ↦ elim (either_some (key_at k.Vec ts) (boxed_at wrap.Vec inner) _ (part ty rest) d.1) [
          | inl x ↦ boxed_takes room wrap.Vec k.Vec inner ts x.x rest ty (λ t. refl) tt (λ t. tt) takes (key_takes k.Vec ts x.x x.is) x.gives
          | inr f ↦ plain_takes room ts rest ty f.1
        ]
      ]
    ]
  ]
]

pub type_takes : (room : ℕ) → Takes spell_type (IsTypeIn room) (type_at room)
unfolding type_at
type_takes zero ts ty rest e = absurd cc
type_takes (suc room) ts ty rest e = step_takes room (type_at room) (type_takes room) ts ty rest e

-- ---- what is spelled is read

count_true : (n : ℕ) → IsWrap (wrap.Array n) → (nat_le 1 n && nat_le n 65535) ≡ true
count_true n h = let low : nat_le 1 n ≡ true = grind (arith, nat_tests) in let high : nat_le n 65535 ≡ true = grind (arith, nat_tests) in rw (low, high) refl

lent_plain : (inner : Reader TypeText) (ws : List Wrap) (b : Base) (rest : List Token) → MayHold wrap.Ref ws b → lent_at inner (spell_round ws b ++ rest) ≡ wrap_at wrap.Ref inner (spell_round ws b ++ rest)
lent_plain inner [] (base.Num width.Bool) rest h = refl
lent_plain inner [] (base.Num width.W8) rest h = refl
lent_plain inner [] (base.Num width.W16) rest h = refl
lent_plain inner [] (base.Num width.W32) rest h = refl
lent_plain inner [] (base.Num width.W64) rest h = refl
lent_plain inner [] (base.Struct name) rest h = refl
lent_plain inner [] (base.RRef name) rest h = absurd h
lent_plain inner [] (base.LentRRef name) rest h = refl
lent_plain inner [] (base.Dyn name) rest h = refl
lent_plain inner [] base.String rest h = refl
lent_plain inner [] base.Function rest h = refl
lent_plain inner (wrap.Array n ∷ ws) b rest h = refl
lent_plain inner (wrap.Box ∷ ws) b rest h = refl
lent_plain inner (wrap.Vec ∷ ws) b rest h = refl
lent_plain inner (wrap.Ref ∷ ws) b rest h = refl
lent_plain inner (wrap.RefMut ∷ ws) b rest h = refl
lent_plain inner (wrap.PointerConst ∷ ws) b rest h = refl
lent_plain inner (wrap.PointerMut ∷ ws) b rest h = refl

abbrev text : List Wrap → Base → TypeText
text ws b = record { wraps = ws; base = b }

round_again : (room : ℕ) (ws : List Wrap) (b : Base) (rest : List Token) → length ws < room → AreWraps ws b → type_at room (spell_round ws b ++ rest) ≡ Some (part (text ws b) rest)
unfolding type_at mark_at key_at name_at number_at base_at angled_at
round_again zero ws b rest lt valid = absurd (omega arith)
round_again (suc room) [] (base.Num width.Bool) rest lt valid = refl
round_again (suc room) [] (base.Num width.W8) rest lt valid = refl
round_again (suc room) [] (base.Num width.W16) rest lt valid = refl
round_again (suc room) [] (base.Num width.W32) rest lt valid = refl
round_again (suc room) [] (base.Num width.W64) rest lt valid = refl
round_again (suc room) [] (base.Struct name) rest lt valid = refl
round_again (suc room) [] (base.RRef name) rest lt valid = refl
round_again (suc room) [] (base.LentRRef name) rest lt valid = refl
round_again (suc room) [] (base.Dyn name) rest lt valid = refl
round_again (suc room) [] base.String rest lt valid = refl
round_again (suc room) [] base.Function rest lt valid = refl
round_again (suc room) (wrap.Array n ∷ ws) b rest lt valid =
    let tail : List Token = Sign m.Semicolon ∷ Number n ∷ Sign m.CloseBracket ∷ [] in
    ap (array_at (type_at room)) (append_assoc (spell_round ws b) tail rest) ∙ rw (round_again room ws b (tail ++ rest) (omega arith) valid.2, count_true n valid.0) refl
round_again (suc room) (wrap.Box ∷ ws) b rest lt valid =
    let tail : List Token = Sign m.Greater ∷ [] in
    ap (λ (t : List Token). boxed_at wrap.Box (type_at room) (Sign m.Less ∷ t)) (append_assoc (spell_round ws b) tail rest) ∙ rw (round_again room ws b (tail ++ rest) (omega arith) valid.2) refl
round_again (suc room) (wrap.Vec ∷ ws) b rest lt valid =
    let tail : List Token = Sign m.Greater ∷ [] in
    ap (λ (t : List Token). boxed_at wrap.Vec (type_at room) (Sign m.Less ∷ t)) (append_assoc (spell_round ws b) tail rest) ∙ rw (round_again room ws b (tail ++ rest) (omega arith) valid.2) refl
round_again (suc room) (wrap.Ref ∷ ws) b rest lt valid = lent_plain (type_at room) ws b rest valid.1 ∙ rw (round_again room ws b rest (omega arith) valid.2) refl
round_again (suc room) (wrap.RefMut ∷ ws) b rest lt valid = rw (round_again room ws b rest (omega arith) valid.2) refl
round_again (suc room) (wrap.PointerConst ∷ ws) b rest lt valid = rw (round_again room ws b rest (omega arith) valid.2) refl
round_again (suc room) (wrap.PointerMut ∷ ws) b rest lt valid = rw (round_again room ws b rest (omega arith) valid.2) refl

pub type_again : (room : ℕ) → Again spell_type (IsTypeIn room) (type_at room)
type_again room ty rest valid = round_again room ty.wraps ty.base rest valid.0 valid.1

-- ---- the reader's choice of a `&`

pub type_lent : (room : ℕ) (ts rest : List Token) → 0 < room → mark_at m.OpenBracket ts ≡ None → mark_at m.Ampersand ts ≡ Some rest → type_at room ts ≡ lent_at (type_at (room - 1)) rest
unfolding type_at
type_lent zero ts rest lt free amp = absurd (omega arith)
type_lent (suc room) ts rest lt free amp = let e : suc room - 1 ≡ room = omega arith in rw (free, amp, e) refl
