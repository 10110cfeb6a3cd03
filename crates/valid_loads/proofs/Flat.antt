-- What is known of each kind that types flatten to.
use Rattle.std.proofs.Common.{◌≡◌, ℕ, zero, suc, ◌⊎◌, inl, inr, Bool, true, false, not, ◌&&◌, List, [], ◌∷◌, Option, Some, None, refl, sym, ap, subst, ◌∙◌}
use Rattle.std.specs.Prelude.{slice_get}
use Rattle.std.specs.Option.{option_to_list}
use Rattle.rl_defs.specs.declared.idl.Base.{Base}
use Rattle.rl_defs.specs.declared.idl.Base.TheVariants as base
use Rattle.rl_defs.specs.declared.idl.TypeText.{TypeText}
use Rattle.rl_defs.specs.declared.tables.Kind.{Kind}
use Rattle.rl_defs.specs.declared.tables.Kind.TheVariants as kind
use Rattle.rl_defs.specs.Interfaces.{Lines, types_at}
use Rattle.rl_defs.specs.Flattening.{Flattens, Ends, Plain, Fields, copies, times_of, kind_held, struct_held, unless_refused, base_kind, is_refused}
use Rattle.rl_defs.specs.Holding.{HasField, Reaches, HasRRef, HoldsRRef, holds_rref, is_rref}
use Rattle.rl_defs.proofs.Lists.{get_both}

-- what holds of each item
abbrev pub Each : {A : Type 0} → (A → Type 0) → List A → Type 0
Each {A} P xs = (i : ℕ) (x : A) → slice_get xs i ≡ Some x → P x

copied : (n : ℕ) (kinds : List Kind) (p : ℕ) (k : Kind) → slice_get (copies n kinds) p ≡ Some k → (q : ℕ) × (slice_get kinds q ≡ Some k)
copied zero kinds p k e = absurd cc
copied (suc n) kinds p k e = elim (get_both kinds (copies n kinds) p k e) [ inl a ↦ (p, a) | inr b ↦ copied n kinds b.0 k b.2 ]

one_held : (o : Option Kind) (q : ℕ) (k : Kind) → slice_get (option_to_list o) q ≡ Some k → o ≡ Some k
one_held None q k e = absurd cc
one_held (Some x) zero k e = cc
one_held (Some x) (suc q) k e = absurd cc

later : {A : Type 0} (P : A → Type 0) (x : A) (xs : List A) → Each P (x ∷ xs) → Each P xs
later P x xs h i y e = h (suc i) y e

-- what holds of the kinds of types, and of those of all fields, holds of each kind that types flatten to
pub flat_each : (lines : Lines) (Q : TypeText → Type 0) (P : Kind → Type 0) → ((ty : TypeText) (k : Kind) → Q ty → kind_held lines ty ≡ Some k → P k) → ((s : ℕ) → Each Q (types_at lines s)) → (types : List TypeText) (kinds : List Kind) → Flattens lines types kinds → Each Q types → Each P kinds
flat_each lines Q P one fields types kinds (Ends t k) each p x e = let bad : None ≡ Some x = sym (ap (λ (ks : List Kind). slice_get ks p) k) ∙ e in absurd cc
flat_each lines Q P one fields types kinds (Plain ty rest more t plain f k) each p x e =
    let all : Each Q (ty ∷ rest) = subst (Each Q) t each in
    elim (get_both (copies (times_of ty.wraps) (option_to_list (kind_held lines ty))) more p x (sym (ap (λ (ks : List Kind). slice_get ks p) k) ∙ e)) [
      | inl a ↦ let c = copied (times_of ty.wraps) (option_to_list (kind_held lines ty)) p x a in one ty x (all 0 ty refl) (one_held (kind_held lines ty) c.0 x c.1)
      | inr b ↦ flat_each lines Q P one fields rest more f (later Q ty rest all) b.0 x b.2
    ]
flat_each lines Q P one fields types kinds (Fields ty rest s inner more t held g f k) each p x e =
    let all : Each Q (ty ∷ rest) = subst (Each Q) t each in
    elim (get_both (copies (times_of ty.wraps) inner) more p x (sym (ap (λ (ks : List Kind). slice_get ks p) k) ∙ e)) [
      | inl a ↦ let c = copied (times_of ty.wraps) inner p x a in flat_each lines Q P one fields (types_at lines s) inner g (fields s) c.0 x c.1
      | inr b ↦ flat_each lines Q P one fields rest more f (later Q ty rest all) b.0 x b.2
    ]

pub unrefused : {X : Type 0} (b : Bool) (o : Option X) (x : X) → unless_refused b o ≡ Some x → (b ≡ false) × (o ≡ Some x)
unrefused true o x e = absurd cc
unrefused false o x e = (refl, e)

-- ---- an `RRef` among the kinds

-- a type that holds an `RRef`, or a struct by value that does
pub record Holder (lines : Lines) (types : List TypeText) : Type 0 where
  pub place : ℕ
  pub ty : TypeText
  pub here : slice_get types place ≡ Some ty
  pub holds : (holds_rref ty ≡ true) ⊎ ((s : ℕ) × (struct_held lines ty ≡ Some s) × HoldsRRef lines s)

rref_base : (lines : Lines) (b : Base) (g : ℕ) → base_kind lines b ≡ Some (kind.Own g) → is_rref b ≡ true
rref_base lines (base.RRef name) g e = refl
rref_base lines (base.Num w) g e = absurd cc
rref_base lines (base.Struct name) g e = absurd cc
rref_base lines (base.LentRRef name) g e = absurd cc
rref_base lines (base.Dyn name) g e = absurd cc
rref_base lines base.String g e = absurd cc
rref_base lines base.Function g e = absurd cc

both_true : (a b : Bool) → a ≡ false → b ≡ true → (not a && b) ≡ true
both_true a b e d = rw (e, d) refl

holds_here : (lines : Lines) (ty : TypeText) (g : ℕ) → kind_held lines ty ≡ Some (kind.Own g) → holds_rref ty ≡ true
holds_here lines ty g e =
    let r = unrefused (is_refused ty) (base_kind lines ty.base) (kind.Own g) e in
    both_true (is_refused ty) (is_rref ty.base) r.0 (rref_base lines ty.base g r.1)

pub struct_holds : (lines : Lines) (s : ℕ) → Holder lines (types_at lines s) → HoldsRRef lines s
struct_holds lines s h = elim h.holds [
  | inl rref ↦ inl (record { place = h.place; ty = h.ty; here = h.here; rref = rref })
  | inr by_value ↦ inr (through (record { place = h.place; ty = h.ty; here = h.here; holds = by_value.1 }) by_value.2)
] where
  through : {t : ℕ} → HasField lines s t → HoldsRRef lines t → (u : ℕ) × Reaches lines s u × HasRRef lines u
  through {t} field (inl has) = (t, ([], field), has)
  through {t} field (inr far) = (far.0, (t ∷ far.1.0, (field, far.1.1)), far.2)

later_holder : (lines : Lines) (ty : TypeText) (types : List TypeText) → Holder lines types → Holder lines (ty ∷ types)
later_holder lines ty types h = record { place = suc h.place; ty = h.ty; here = h.here; holds = h.holds }

pub own_held : (lines : Lines) (types : List TypeText) (kinds : List Kind) (p g : ℕ) → Flattens lines types kinds → slice_get kinds p ≡ Some (kind.Own g) → Holder lines types
own_held lines types kinds p g (Ends t k) e = let bad : None ≡ Some (kind.Own g) = sym (ap (λ (ks : List Kind). slice_get ks p) k) ∙ e in absurd cc
own_held lines types kinds p g (Plain ty rest more t plain f k) e =
    subst (Holder lines) (sym t) (elim (get_both (copies (times_of ty.wraps) (option_to_list (kind_held lines ty))) more p (kind.Own g) (sym (ap (λ (ks : List Kind). slice_get ks p) k) ∙ e)) [
      | inl a ↦ (let c = copied (times_of ty.wraps) (option_to_list (kind_held lines ty)) p (kind.Own g) a in record { place = 0; ty = ty; here = refl; holds = inl (holds_here lines ty g (one_held (kind_held lines ty) c.0 (kind.Own g) c.1)) })
      | inr b ↦ later_holder lines ty rest (own_held lines rest more b.0 g f b.2)
    ])
own_held lines types kinds p g (Fields ty rest s inner more t held h f k) e =
    subst (Holder lines) (sym t) (elim (get_both (copies (times_of ty.wraps) inner) more p (kind.Own g) (sym (ap (λ (ks : List Kind). slice_get ks p) k) ∙ e)) [
      | inl a ↦ (let c = copied (times_of ty.wraps) inner p (kind.Own g) a in record { place = 0; ty = ty; here = refl; holds = inr (s, held, struct_holds lines s (own_held lines (types_at lines s) inner c.0 g h c.1)) })
      | inr b ↦ later_holder lines ty rest (own_held lines rest more b.0 g f b.2)
    ])
