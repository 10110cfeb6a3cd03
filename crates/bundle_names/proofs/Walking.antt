-- Lines one after the other: what the lines so far leave, a test of each line, and the first line that fails.
use Rattle.std.proofs.Common.{◌≡◌, ℕ, zero, suc, ◌+◌, ◌≤◌, Bool, true, false, ◌||◌, List, [], ◌∷◌, length, drop, Option, Some, None, ◌⊎◌, inl, inr, refl, sym, ap, subst, ◌∙◌, arith, Err}
use Rattle.std.specs.Prelude.{slice_get, IsTrue}
use Rattle.std.proofs.lemmas.List.{drop_all}
use Rattle.rl_defs.specs.declared.bundle.Numbered.{Numbered}
use Rattle.rl_defs.specs.declared.LoadFault.{LoadFault}
use Rattle.rl_defs.specs.declared.LoadFault.TheVariants.{Refused}
use Rattle.rl_defs.specs.Refusals.{Failing, IsFirst, Nowhere, NotAfter, Answers}
use Rattle.rl_defs.specs.BundleOrder.{Rise, numbers_of}
use Rattle.rl_defs.proofs.Places.{drop_at}
use Rattle.rl_defs.proofs.FirstRefusal.{refuses}
use Rattle.bundle_names.specs.Tests.{rule_of}
use Rattle.bundle_names.proofs.Naming.{or_either, or_first, or_second}

-- the line of this number passes a test, by what the lines before it left
abbrev pub Meets : {S Form : Type 0} → (S → Form → S) → (S → Form → Bool) → S → List (Numbered Form) → ℕ → Type 0
Meets step test s [] n = ⊥
Meets step test s (x ∷ xs) n = ((x.line ≡ n) × IsTrue (test s x.form)) ⊎ Meets step test (step s x.form) xs n

-- which of two rules fail at which lines, by a test for each
abbrev pub FailsFrom : {S Form : Type 0} → (S → Form → S) → (S → Form → Bool) → (S → Form → Bool) → S → List (Numbered Form) → Failing
FailsFrom step again nothing s lines n rule = ((rule ≡ 3) × Meets step again s lines n) ⊎ ((rule ≡ 4) × Meets step nothing s lines n)

-- a line of this form is there with this number, and this holds of it
pub record LineWith {Form : Type 0} (lines : List (Numbered Form)) (Holds : Form → Type 0) (n : ℕ) : Type 0 where
  pub place : ℕ
  pub form : Form
  pub here : slice_get lines place ≡ Some (record { line = n; form = form })
  pub holds : Holds form

pub line_meets : {S Form : Type 0} (step : S → Form → S) (test : Form → Bool) (Holds : Form → Type 0) → ((f : Form) → Holds f → IsTrue (test f)) → (s : S) (lines : List (Numbered Form)) (n : ℕ) → LineWith lines Holds n → Meets step (λ t f. test f) s lines n
line_meets {S} {Form} step test Holds to s lines n l = at s lines l.place l.here where
  at : (t : S) (ls : List (Numbered Form)) (i : ℕ) → slice_get ls i ≡ Some (record { line = n; form = l.form }) → Meets step (λ t f. test f) t ls n
  at t [] i e = absurd cc
  at t (x ∷ xs) zero e = inl (same x e) where
    same : (y : Numbered Form) → Some y ≡ Some (record { line = n; form = l.form }) → (y.line ≡ n) × IsTrue (test y.form)
    same y f = let is : y ≡ record { line = n; form = l.form } = cc in rw is (refl, to l.form l.holds)
  at t (x ∷ xs) (suc i) e = inr (at (step t x.form) xs i e)

pub meets_line : {S Form : Type 0} (step : S → Form → S) (test : Form → Bool) (Holds : Form → Type 0) → ((f : Form) → IsTrue (test f) → Holds f) → (s : S) (lines : List (Numbered Form)) (n : ℕ) → Meets step (λ t f. test f) s lines n → LineWith lines Holds n
meets_line step test Holds from s [] n h = absurd h
meets_line step test Holds from s (x ∷ xs) n (inl a) = record { place = 0; form = x.form; here = rw (sym a.0) refl; holds = from x.form a.1 }
meets_line step test Holds from s (x ∷ xs) n (inr b) = let rest = meets_line step test Holds from (step s x.form) xs n b in record { place = suc rest.place; form = rest.form; here = rest.here; holds = rest.holds }

-- one of two tests
pub meets_or : {S Form : Type 0} (step : S → Form → S) (a b : S → Form → Bool) (s : S) (lines : List (Numbered Form)) (n : ℕ) → Meets step (λ t f. a t f || b t f) s lines n → Meets step a s lines n ⊎ Meets step b s lines n
meets_or step a b s [] n h = absurd h
meets_or step a b s (x ∷ xs) n (inl h) = elim (or_either (a s x.form) (b s x.form) h.1) [ inl p ↦ inl (inl (h.0, p)) | inr q ↦ inr (inl (h.0, q)) ]
meets_or step a b s (x ∷ xs) n (inr h) = elim (meets_or step a b (step s x.form) xs n h) [ inl p ↦ inl (inr p) | inr q ↦ inr (inr q) ]

pub or_meets_first : {S Form : Type 0} (step : S → Form → S) (a b : S → Form → Bool) (s : S) (lines : List (Numbered Form)) (n : ℕ) → Meets step a s lines n → Meets step (λ t f. a t f || b t f) s lines n
or_meets_first step a b s [] n h = absurd h
or_meets_first step a b s (x ∷ xs) n (inl h) = inl (h.0, or_first (a s x.form) (b s x.form) h.1)
or_meets_first step a b s (x ∷ xs) n (inr h) = inr (or_meets_first step a b (step s x.form) xs n h)

pub or_meets_second : {S Form : Type 0} (step : S → Form → S) (a b : S → Form → Bool) (s : S) (lines : List (Numbered Form)) (n : ℕ) → Meets step b s lines n → Meets step (λ t f. a t f || b t f) s lines n
or_meets_second step a b s [] n h = absurd h
or_meets_second step a b s (x ∷ xs) n (inl h) = inl (h.0, or_second (a s x.form) (b s x.form) h.1)
or_meets_second step a b s (x ∷ xs) n (inr h) = inr (or_meets_second step a b (step s x.form) xs n h)

-- a test of a part of what the lines leave
pub part_meets : {S T Form : Type 0} (step : S → Form → S) (small : T → Form → T) (test : T → Form → Bool) (part : S → T) → ((s : S) (f : Form) → part (step s f) ≡ small (part s) f) → (s : S) (lines : List (Numbered Form)) (n : ℕ) → Meets small test (part s) lines n → Meets step (λ t f. test (part t) f) s lines n
part_meets step small test part same s [] n h = absurd h
part_meets step small test part same s (x ∷ xs) n (inl h) = inl h
part_meets {S} {T} step small test part same s (x ∷ xs) n (inr h) = inr (part_meets step small test part same (step s x.form) xs n (subst (λ (t : T). Meets small test t xs n) (sym (same s x.form)) h))

pub meets_part : {S T Form : Type 0} (step : S → Form → S) (small : T → Form → T) (test : T → Form → Bool) (part : S → T) → ((s : S) (f : Form) → part (step s f) ≡ small (part s) f) → (s : S) (lines : List (Numbered Form)) (n : ℕ) → Meets step (λ t f. test (part t) f) s lines n → Meets small test (part s) lines n
meets_part step small test part same s [] n h = absurd h
meets_part step small test part same s (x ∷ xs) n (inl h) = inl h
meets_part {S} {T} step small test part same s (x ∷ xs) n (inr h) = inr (subst (λ (t : T). Meets small test t xs n) (same s x.form) (meets_part step small test part same (step s x.form) xs n h))

-- a line that passes a test is there
pub meets_number : {S Form : Type 0} (step : S → Form → S) (test : S → Form → Bool) (s : S) (lines : List (Numbered Form)) (n : ℕ) → Meets step test s lines n → (i : ℕ) × (slice_get (numbers_of lines) i ≡ Some n)
meets_number step test s [] n h = absurd h
meets_number step test s (x ∷ xs) n (inl h) = (0, ap (λ (k : ℕ). Some k) h.0)
meets_number step test s (x ∷ xs) n (inr h) = let rest = meets_number step test (step s x.form) xs n h in (suc rest.0, rest.1)

-- Where the rules fail from here on, as far as they didn't before: they are those of the lines that are left.
pub record Left {S Form : Type 0} (F : Failing) (step : S → Form → S) (again nothing : S → Form → Bool) (s : S) (lines : List (Numbered Form)) : Type 0 where
  pub to : (n r : ℕ) → F n r → FailsFrom step again nothing s lines n r
  pub of : (n r : ℕ) → FailsFrom step again nothing s lines n r → F n r
  pub rises : Rise (numbers_of lines)

rise_rest : (x : ℕ) (xs : List ℕ) → Rise (x ∷ xs) → Rise xs
rise_rest x xs h = λ j k a b lt p q. h (suc j) (suc k) a b (omega arith) p q

untrue : (b : Bool) → b ≡ false → IsTrue b → ⊥
untrue true e h = absurd cc
untrue false e h = absurd cc

-- a line that keeps both rules
pub left_on : {S Form : Type 0} (F : Failing) (step : S → Form → S) (again nothing : S → Form → Bool) (s : S) (x : Numbered Form) (xs : List (Numbered Form)) → Left F step again nothing s (x ∷ xs) → again s x.form ≡ false → nothing s x.form ≡ false → Left F step again nothing (step s x.form) xs
left_on F step again nothing s x xs h a b = record {
  to = λ n r f. elim (h.to n r f) [
    | inl p ↦ inl (p.0, elim p.1 [ inl q ↦ absurd (untrue (again s x.form) a q.1) | inr q ↦ q ])
    | inr p ↦ inr (p.0, elim p.1 [ inl q ↦ absurd (untrue (nothing s x.form) b q.1) | inr q ↦ q ])
  ];
  of = λ n r f. elim f [ inl p ↦ h.of n r (inl (p.0, inr p.1)) | inr p ↦ h.of n r (inr (p.0, inr p.1)) ];
  rises = rise_rest x.line (numbers_of xs) h.rises;
}

pub left_end : {S Form : Type 0} (F : Failing) (step : S → Form → S) (again nothing : S → Form → Bool) (s : S) → Left {S = S} {Form = Form} F step again nothing s [] → Nowhere F
left_end F step again nothing s h l r f = elim (h.to l r f) [ inl p ↦ p.1 | inr p ↦ p.1 ]

not_after : {S Form : Type 0} (step : S → Form → S) (test : S → Form → Bool) (s : S) (x : Numbered Form) (xs : List (Numbered Form)) (l rule r : ℕ) → Rise (numbers_of (x ∷ xs)) → (IsTrue (test s x.form) → rule ≤ r) → Meets step test s (x ∷ xs) l → NotAfter x.line rule l r
not_after step test s x xs l rule r rises low (inl h) = inr (h.0, low h.1)
not_after step test s x xs l rule r rises low (inr h) = let i = meets_number step test (step s x.form) xs l h in inl (rises 0 (suc i.0) x.line l (omega arith) refl i.1)

-- a line that breaks a rule is the first
pub left_first : {S Form : Type 0} (F : Failing) (step : S → Form → S) (again nothing : S → Form → Bool) (s : S) (x : Numbered Form) (xs : List (Numbered Form)) (rule : ℕ) → Left F step again nothing s (x ∷ xs) → rule_of (again s x.form) (nothing s x.form) ≡ Some rule → IsFirst F x.line rule
left_first F step again nothing s x xs rule h e = by (again s x.form) (nothing s x.form) refl refl e where
  by : (a b : Bool) → again s x.form ≡ a → nothing s x.form ≡ b → rule_of a b ≡ Some rule → IsFirst F x.line rule
  by true b p q f = let is : rule ≡ 3 = cc in record {
    fails = h.of x.line rule (inl (is, inl (refl, p)));
    first = λ l r g. elim (h.to l r g) [
      | inl m ↦ not_after step again s x xs l rule r h.rises (λ _. omega (arith, is, m.0)) m.1
      | inr m ↦ not_after step nothing s x xs l rule r h.rises (λ _. omega (arith, is, m.0)) m.1
    ];
  }
  by false true p q f = let is : rule ≡ 4 = cc in record {
    fails = h.of x.line rule (inr (is, inl (refl, q)));
    first = λ l r g. elim (h.to l r g) [
      | inl m ↦ not_after step again s x xs l rule r h.rises (λ t. absurd (untrue (again s x.form) p t)) m.1
      | inr m ↦ not_after step nothing s x xs l rule r h.rises (λ _. omega (arith, is, m.0)) m.1
    ];
  }
  by false false p q f = absurd cc

-- no rule is broken
pub no_rule : (a b : Bool) → rule_of a b ≡ None → (a ≡ false) × (b ≡ false)
no_rule true b e = absurd cc
no_rule false true e = absurd cc
no_rule false false e = (refl, refl)

-- the same of the lines from a place on
pub left_next : {S Form : Type 0} (F : Failing) (step : S → Form → S) (again nothing : S → Form → Bool) (s : S) (lines : List (Numbered Form)) (k : ℕ) (x : Numbered Form) → slice_get lines k ≡ Some x → Left F step again nothing s (drop k lines) → rule_of (again s x.form) (nothing s x.form) ≡ None → Left F step again nothing (step s x.form) (drop (k + 1) lines)
left_next {S} {Form} F step again nothing s lines k x here h e =
    let kept = no_rule (again s x.form) (nothing s x.form) e in
    left_on F step again nothing s x (drop (k + 1) lines) (subst (λ (ls : List (Numbered Form)). Left F step again nothing s ls) (drop_at lines k x here) h) kept.0 kept.1

pub left_fails : {S Form : Type 0} (F : Failing) (step : S → Form → S) (again nothing : S → Form → Bool) (s : S) (lines : List (Numbered Form)) (k : ℕ) (x : Numbered Form) (rule : ℕ) (e : LoadFault) → slice_get lines k ≡ Some x → Left F step again nothing s (drop k lines) → rule_of (again s x.form) (nothing s x.form) ≡ Some rule → e ≡ Refused (record { line = x.line; rule = rule }) → Answers {X = Unit {0}} F (λ _. Unit {0}) (Err e)
left_fails {S} {Form} F step again nothing s lines k x rule e here h broken is =
    refuses {X = Unit {0}} F (λ _. Unit {0}) e x.line rule is (left_first F step again nothing s x (drop (k + 1) lines) rule (subst (λ (ls : List (Numbered Form)). Left F step again nothing s ls) (drop_at lines k x here) h) broken)

pub left_all : {S Form : Type 0} (F : Failing) (step : S → Form → S) (again nothing : S → Form → Bool) (s : S) (lines : List (Numbered Form)) (k : ℕ) → length lines ≤ k → Left F step again nothing s (drop k lines) → Nowhere F
left_all {S} {Form} F step again nothing s lines k le h = left_end {S = S} {Form = Form} F step again nothing s (subst (λ (ls : List (Numbered Form)). Left F step again nothing s ls) (drop_all k lines le) h)

-- the rule that a line breaks, by equal tests
pub rule_same : (a b c d : Bool) (r o : Option ℕ) → r ≡ rule_of a b → r ≡ o → a ≡ c → b ≡ d → rule_of c d ≡ o
rule_same a b c d r o e f p q = rw (sym p, sym q) (sym e ∙ f)
