-- The earlier of two refusals.
use Rattle.std.proofs.Common.{◌≡◌, ℕ, Bool, true, false, ◌+◌, ◌<◌, ◌≤◌, length, Some, None, ◌⊎◌, inl, inr, refl, sym, ap, subst, ◌∙◌, arith}
use Rattle.std.specs.Prelude.{slice_get, Err}
use Rattle.std.proofs.lemmas.Bool.{cases_lt, cases_order}
use Rattle.rl_defs.specs.declared.LoadFault.{LoadFault}
use Rattle.rl_defs.specs.declared.LoadFault.TheVariants.{Refused, Memory}
use Rattle.rl_defs.specs.declared.bundle.Numbered.{Numbered}
use Rattle.rl_defs.specs.declared.idl.Idl.{Idl}
use Rattle.rl_defs.specs.declared.idl.IdlLine.{IdlLine}
use Rattle.rl_defs.specs.Refusals.{IsFirst, Nowhere, Answers, NotAfter}
use Rattle.rl_defs.specs.Interfaces.{Lines, Rises}
use Rattle.rl_defs.specs.TypeRules.{has_bad_type, HasBadType, FailsTypes}
use Rattle.rl_defs.proofs.Places.{get_within}
use Rattle.exchangeable_types.specs.Rows.{FailsStructs}
use Rattle.exchangeable_types.specs.BadLines.{IsFirstBad, IsFirstRefusal}

-- a rule of structs fails as a rule of types, and the other way round
struct_fails : (idl : Idl) (n r : ℕ) → FailsStructs idl.lines n r → FailsTypes idl n r
struct_fails idl n r (s, at, inl a) = inr (inl (a.0, record { number = s; here = at; endless = a.1 }))
struct_fails idl n r (s, at, inr (inl a)) = inr (inr (inl (a.0, record { number = s; here = at; ends = a.1.ends; cells = a.1.cells; flat = a.1.flat; many = a.1.many })))
struct_fails idl n r (s, at, inr (inr a)) = inr (inr (inr (a.0, record { number = s; here = at; ends = a.1.ends; cells = a.1.cells; flat = a.1.flat; few = a.1.few; place = a.1.place; held = a.1.held; cell = a.1.cell; nested = a.1.nested })))

type_fails : (idl : Idl) (n r : ℕ) → FailsTypes idl n r → ((r ≡ 10) × HasBadType idl.lines n) ⊎ FailsStructs idl.lines n r
type_fails idl n r (inl a) = inl a
type_fails idl n r (inr (inl (e, h))) = inr (h.number, h.here, inl (e, h.endless))
type_fails idl n r (inr (inr (inl (e, h)))) = inr (h.number, h.here, inr (inl (e, record { ends = h.ends; cells = h.cells; flat = h.flat; many = h.many })))
type_fails idl n r (inr (inr (inr (e, h)))) = inr (h.number, h.here, inr (inr (e, record { ends = h.ends; cells = h.cells; flat = h.flat; few = h.few; place = h.place; held = h.held; cell = h.cell; nested = h.nested })))

struct_rule : (lines : Lines) (n r : ℕ) → FailsStructs lines n r → 10 ≤ r
struct_rule lines n r (s, at, inl a) = omega (arith, a.0)
struct_rule lines n r (s, at, inr (inl a)) = omega (arith, a.0)
struct_rule lines n r (s, at, inr (inr a)) = omega (arith, a.0)

not_after : (line l r : ℕ) → line ≤ l → 10 ≤ r → NotAfter line 10 l r
not_after line l r le rule = elim (cases_lt line l) [ inl a ↦ inl a | inr a ↦ inr (omega arith, rule) ]

pub first_answers : {X : Type 0} (idl : Idl) (V : X → Type 0) (e : LoadFault) → IsFirstRefusal idl e → Answers {X = X} (FailsTypes idl) V (Err e)
first_answers idl V (Refused at) h = h
first_answers idl V Memory h = h

-- rule 10 fails first, where no rule of structs fails before
pub bad_first : (idl : Idl) (line : ℕ) (e : LoadFault) → IsFirstBad idl.lines (Some line) → ((l r : ℕ) → FailsStructs idl.lines l r → line ≤ l) → e ≡ Refused (record { line = line; rule = 10 }) → IsFirstRefusal idl e
bad_first idl line e bad before is = subst (λ (x : LoadFault). IsFirstRefusal idl x) (sym is) (record {
  fails = inl (refl, bad.0);
  first = λ l r f. elim (type_fails idl l r f) [
    | inl a ↦ not_after line l r (bad.1 l a.1) (omega (arith, a.0))
    | inr a ↦ not_after line l r (before l r a) (struct_rule idl.lines l r a)
  ];
})

-- a rule of structs fails first, where rule 10 fails only later
pub struct_first : (idl : Idl) (line rule : ℕ) → IsFirst (FailsStructs idl.lines) line rule → ((m : ℕ) → HasBadType idl.lines m → line < m) → IsFirst (FailsTypes idl) line rule
struct_first idl line rule h later = record {
  fails = struct_fails idl line rule h.fails;
  first = λ l r f. elim (type_fails idl l r f) [ inl a ↦ inl (later l a.1) | inr a ↦ h.first l r a ];
}

-- no rule fails
pub no_refusal : (idl : Idl) → IsFirstBad idl.lines None → Nowhere (FailsStructs idl.lines) → Nowhere (FailsTypes idl)
no_refusal idl bad none l r f = elim (type_fails idl l r f) [ inl a ↦ bad l a.1 | inr a ↦ none l r a ]

-- the lines before a place hold no bad type
pub record GoodTo (lines : Lines) (i : ℕ) : Type 0 where
  pub good : (k : ℕ) (x : Numbered IdlLine) → k < i → slice_get lines k ≡ Some x → has_bad_type x.form ≡ false

pub good_more : (lines : Lines) (i : ℕ) (x : Numbered IdlLine) → GoodTo lines i → slice_get lines i ≡ Some x → has_bad_type x.form ≡ false → GoodTo lines (i + 1)
good_more lines i x h here good = record {
  good = λ k y lt e. elim (cases_lt k i) [
    | inl a ↦ h.good k y a e
    | inr b ↦ let same : k ≡ i = omega arith in alike y (sym here ∙ subst (λ (n : ℕ). slice_get lines n ≡ Some y) same e)
  ];
} where
  alike : (y : Numbered IdlLine) → Some x ≡ Some y → has_bad_type y.form ≡ false
  alike y e = let is : x ≡ y = cc in subst (λ (z : Numbered IdlLine). has_bad_type z.form ≡ false) is good

pub good_all : (lines : Lines) (i : ℕ) → length lines ≤ i → GoodTo lines i → IsFirstBad lines None
good_all lines i le h n bad =
    let good = h.good bad.here.place (record { line = n; form = bad.line }) (omega (arith, le, get_within lines bad.here.place (record { line = n; form = bad.line }) bad.here.here)) bad.here.here in
    let both : false ≡ true = sym good ∙ bad.bad in
    cc

pub bad_found : (lines : Lines) (i : ℕ) (x : Numbered IdlLine) → Rises lines → GoodTo lines i → slice_get lines i ≡ Some x → has_bad_type x.form ≡ true → IsFirstBad lines (Some x.line)
bad_found lines i x rises h here bad = (
  record { line = x.form; here = record { place = i; here = here }; bad = bad },
  λ m other. elim (cases_order i other.here.place) [
    | inl same ↦ alike (record { line = m; form = other.line }) (sym here ∙ subst (λ (n : ℕ). slice_get lines n ≡ Some (record { line = m; form = other.line })) (sym same) other.here.here)
    | inr (inl less) ↦ omega (arith, rises i other.here.place x (record { line = m; form = other.line }) less here other.here.here)
    | inr (inr more) ↦ absurd (untrue (h.good other.here.place (record { line = m; form = other.line }) more other.here.here) other.bad)
  ],
) where
  alike : (y : Numbered IdlLine) → Some x ≡ Some y → x.line ≤ y.line
  alike y e = let is : x ≡ y = cc in omega (arith, ap (λ (z : Numbered IdlLine). z.line) is)

  untrue : {b : Bool} → b ≡ false → b ≡ true → ⊥
  untrue {b} e t = let both : false ≡ true = sym e ∙ t in cc

pub not_before : (line rule l r : ℕ) → NotAfter line rule l r → line ≤ l
not_before line rule l r (inl lt) = omega arith
not_before line rule l r (inr (same, le)) = omega arith
