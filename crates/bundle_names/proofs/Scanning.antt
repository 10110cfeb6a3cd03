-- The first of several items, in order, that fails.
use Rattle.std.proofs.Common.{◌≡◌, ℕ, ◌+◌, ◌<◌, ◌≤◌, inl, inr, Bool, true, false, List, Some, None, length, refl, sym, ap, subst, ◌∙◌, arith, Result, Ok, Err}
use Rattle.std.specs.Prelude.{slice_get}
use Rattle.std.proofs.lemmas.Bool.{cases_lt, cases_order}
use Rattle.rl_defs.specs.declared.LoadFault.{LoadFault}
use Rattle.rl_defs.specs.declared.LoadFault.TheVariants.{Refused, Memory}
use Rattle.rl_defs.specs.declared.bundle.Numbered.{Numbered}
use Rattle.rl_defs.specs.Refusals.{Failing, IsFirst, Nowhere, Answers}
use Rattle.rl_defs.proofs.Places.{get_within}
use Rattle.bundle_names.specs.Scopes.{rule_when, FailsWhen, FailsAt, Somewhere}

-- what fails at a later item fails at a later line
abbrev pub Later : (ℕ → Failing) → Type 0
Later F = (j k l r m s : ℕ) → j < k → F j l r → F k m s → l < m

-- nothing fails at the items before this one
pub record CleanTo (F : ℕ → Failing) (k : ℕ) : Type 0 where
  pub none : (j l r : ℕ) → j < k → F j l r → ⊥

pub clean_more : (F : ℕ → Failing) (k : ℕ) → CleanTo F k → Nowhere (F k) → CleanTo F (k + 1)
clean_more F k h here = record {
  none = λ j l r lt f. elim (cases_lt j k) [ inl a ↦ h.none j l r a f | inr b ↦ let same : j ≡ k = omega arith in here l r (subst (λ (i : ℕ). F i l r) same f) ];
}

pub clean_first : (F : ℕ → Failing) (k line rule : ℕ) → Later F → CleanTo F k → IsFirst (F k) line rule → IsFirst (Somewhere F) line rule
clean_first F k line rule later h first = record {
  fails = (k, first.fails);
  first = λ l r. λ (f : Somewhere F l r). elim (cases_order k f.0) [
    | inl same ↦ first.first l r (subst (λ (i : ℕ). F i l r) (sym same) f.1)
    | inr (inl less) ↦ inl (later k f.0 line rule l r less first.fails f.1)
    | inr (inr more) ↦ absurd (h.none f.0 l r more f.1)
  ];
}

pub clean_all : (F : ℕ → Failing) (k n : ℕ) → n ≤ k → ((j l r : ℕ) → F j l r → j < n) → CleanTo F k → Nowhere (Somewhere F)
clean_all F k n le within h l r (j, f) = h.none j l r (omega (arith, within j l r f)) f

-- the same failing pairs have the same first
pub answers_same : {X : Type 0} (F G : Failing) (V : X → Type 0) → ((l r : ℕ) → F l r → G l r) → ((l r : ℕ) → G l r → F l r) → (a : Result X LoadFault) → Answers F V a → Answers G V a
answers_same F G V to from (Ok x) h = (λ l r f. h.0 l r (from l r f), h.1)
answers_same F G V to from (Err (Refused at)) h = record { fails = to at.line at.rule h.fails; first = λ l r f. h.first l r (from l r f) }
answers_same F G V to from (Err Memory) h = tt

-- a line where no rule fails, and the first rule that fails at a line
no_rule : (three four : Bool) → rule_when three four ≡ None → (r : ℕ) → FailsWhen three four r → ⊥
no_rule true four e r f = absurd cc
no_rule false true e r f = absurd cc
no_rule false false e r (inl a) = let both : false ≡ true = a.1 in absurd cc
no_rule false false e r (inr a) = let both : false ≡ true = a.1 in absurd cc

some_rule : (three four : Bool) (rule : ℕ) → rule_when three four ≡ Some rule → FailsWhen three four rule × ((r : ℕ) → FailsWhen three four r → rule ≤ r)
some_rule true four rule e = let is : 3 ≡ rule = cc in (inl (sym is, refl), λ r f. elim f [ inl a ↦ omega (arith, is, a.0) | inr a ↦ omega (arith, is, a.0) ])
some_rule false true rule e = let is : 4 ≡ rule = cc in (inr (sym is, refl), λ r f. elim f [ inl a ↦ (let both : false ≡ true = a.1 in absurd cc) | inr a ↦ omega (arith, is, a.0) ])
some_rule false false rule e = absurd cc

module _ {Form : Type 0} (lines : List (Numbered Form)) (three four : ℕ → Form → Bool) (k : ℕ) (x : Numbered Form) (here : slice_get lines k ≡ Some x) where
  same_line : (n : ℕ) (form : Form) → slice_get lines k ≡ Some (record { line = n; form = form }) → x ≡ record { line = n; form = form }
  same_line n form e = let both : Some x ≡ Some (record { line = n; form = form }) = sym here ∙ e in cc

  moved : (n r : ℕ) (form : Form) → slice_get lines k ≡ Some (record { line = n; form = form }) → FailsWhen (three k form) (four k form) r → FailsWhen (three k x.form) (four k x.form) r
  moved n r form e f = subst (λ (y : Numbered Form). FailsWhen (three k y.form) (four k y.form) r) (sym (same_line n form e)) f

  pub line_passes : rule_when (three k x.form) (four k x.form) ≡ None → Nowhere (FailsAt lines three four k)
  line_passes none n r (form, there, f) = no_rule (three k x.form) (four k x.form) none r (moved n r form there f)

  pub line_first : (rule : ℕ) → rule_when (three k x.form) (four k x.form) ≡ Some rule → IsFirst (FailsAt lines three four k) x.line rule
  line_first rule some = let s = some_rule (three k x.form) (four k x.form) rule some in record {
    fails = (x.form, here, s.0);
    first = λ n r. λ (f : FailsAt lines three four k n r). inr (ap (λ (y : Numbered Form). y.line) (same_line n f.0 f.1), s.1 r (moved n r f.0 f.1 f.2));
  }

pub line_within : {Form : Type 0} (lines : List (Numbered Form)) (three four : ℕ → Form → Bool) (k n r : ℕ) → FailsAt lines three four k n r → k < length lines
line_within lines three four k n r (form, here, f) = get_within lines k (record { line = n; form = form }) here

-- the lines of a part are numbered upwards
pub lines_later : {Form : Type 0} (lines : List (Numbered Form)) (three four : ℕ → Form → Bool) → ((j k : ℕ) (x y : Numbered Form) → j < k → slice_get lines j ≡ Some x → slice_get lines k ≡ Some y → x.line < y.line) → Later (FailsAt lines three four)
lines_later lines three four rises j k l r m s lt (a, x, f) (b, y, g) = rises j k (record { line = l; form = a }) (record { line = m; form = b }) lt x y

pub refused_first : {X : Type 0} (F : Failing) (V : X → Type 0) (e : LoadFault) (line rule : ℕ) → e ≡ Refused (record { line = line; rule = rule }) → IsFirst F line rule → Answers {X = X} F V (Err e)
refused_first F V e line rule is h = subst (λ (x : LoadFault). Answers F V (Err x)) (sym is) h
