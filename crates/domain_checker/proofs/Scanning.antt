-- The scan of the lines of a domain.
use Rattle.std.proofs.Common.{◌≡◌, ℕ, ◌+◌, ◌≤◌, Bool, true, false, List, [], length, Option, Some, None, inl, inr, refl, sym, ap, subst, ◌∙◌, arith}
use Rattle.std.specs.Prelude.{slice_get}
use Rattle.std.proofs.lemmas.Bool.{cases_lt, cases_order}
use Rattle.std.proofs.lemmas.Option.{slice_get_within}
use Rattle.rl_defs.specs.declared.bundle.Numbered.{Numbered}
use Rattle.rl_defs.specs.declared.code.DomainLine.{DomainLine}
use Rattle.rl_defs.specs.declared.code.Register.{Register}
use Rattle.rl_defs.specs.declared.checked.LineRow.{LineRow}
use Rattle.rl_defs.specs.DomainValue.{Domain}
use Rattle.rl_defs.specs.Refusals.{IsFirst, Nowhere}
use Rattle.rl_defs.specs.CodeRules.{FailsCode, breaks}
use Rattle.rl_defs.specs.DomainParts.{LinesRise}
use Rattle.domain_checker.specs.Lowest.{IsLowest}
use Rattle.domain_checker.specs.Keeping.{AreRows, NoneBefore}

one_line : (o : Option (Numbered DomainLine)) (a b : Numbered DomainLine) → o ≡ Some a → o ≡ Some b → a ≡ b
one_line o a b e f = cc

untrue : {b : Bool} → b ≡ false → b ≡ true → ⊥
untrue {b} e t = let both : false ≡ true = sym e ∙ t in cc

pub none_first : (d : Domain) → NoneBefore d 0
none_first d = record { none = λ m l r lt e. absurd (omega arith) }

pub rows_first : (d : Domain) (pool : List Register) (rows : List LineRow) → rows ≡ [] → AreRows d pool rows 0
rows_first d pool rows is = subst (λ rs. AreRows d pool rs 0) (sym is) (record { long = refl; each = λ m row e. absurd cc })

-- a line that breaks no rule
pub none_more : (d : Domain) (n : ℕ) (l : Numbered DomainLine) → NoneBefore d n → slice_get d.lines n ≡ Some l → IsLowest (breaks d n l.form) None → NoneBefore d (n + 1)
none_more d n l h here lowest = record {
  none = λ m k r lt e. elim (cases_lt m n) [
    | inl less ↦ h.none m k r less e
    | inr more ↦ let same : m ≡ n = omega arith in at m k r same e
  ];
} where
  at : (m : ℕ) (k : Numbered DomainLine) (r : ℕ) → m ≡ n → slice_get d.lines m ≡ Some k → breaks d m k.form r ≡ false
  at m k r same e =
      subst (λ (j : ℕ). breaks d j k.form r ≡ false) (sym same)
      (subst (λ (x : Numbered DomainLine). breaks d n x.form r ≡ false) (one_line (slice_get d.lines n) l k here (subst (λ (j : ℕ). slice_get d.lines j ≡ Some k) same e)) (lowest r))

pub none_all : (d : Domain) (n : ℕ) → length d.lines ≤ n → NoneBefore d n → Nowhere (FailsCode d)
none_all d n le h number rule f =
    untrue (h.none f.place (record { line = number; form = f.form }) rule (omega (arith, le, slice_get_within d.lines f.place (record { line = number; form = f.form }) f.here)) f.here) f.broken

-- the first line that breaks a rule
pub found_first : (d : Domain) (n rule : ℕ) (l : Numbered DomainLine) → LinesRise d.lines → NoneBefore d n → slice_get d.lines n ≡ Some l → IsLowest (breaks d n l.form) (Some rule) → IsFirst (FailsCode d) l.line rule
found_first d n rule l rises h here lowest = record {
  fails = record { place = n; form = l.form; here = here; broken = lowest.0 };
  first = λ k r f. elim (cases_order f.place n) [
    | inl same ↦ at k r f (one_line (slice_get d.lines n) l (record { line = k; form = f.form }) here (subst (λ (j : ℕ). slice_get d.lines j ≡ Some (record { line = k; form = f.form })) same f.here)) same
    | inr (inl less) ↦ absurd (untrue (h.none f.place (record { line = k; form = f.form }) r less f.here) f.broken)
    | inr (inr more) ↦ inl (rises n f.place l (record { line = k; form = f.form }) more here f.here)
  ];
} where
  at : (k r : ℕ) (f : FailsCode d k r) → l ≡ record { line = k; form = f.form } → f.place ≡ n → Rattle.rl_defs.specs.Refusals.NotAfter l.line rule k r
  at k r f is same = inr (ap (λ (x : Numbered DomainLine). x.line) is, lowest.1 r (subst (λ (x : Numbered DomainLine). breaks d n x.form r ≡ true) (sym is) (subst (λ (j : ℕ). breaks d j f.form r ≡ true) same f.broken)))

-- the same line, where domain and place are named otherwise
pub line_there : (d e : Domain) (m n : ℕ) (l : Numbered DomainLine) → e ≡ d → m ≡ n → slice_get d.lines n ≡ Some l → slice_get e.lines m ≡ Some l
line_there d e m n l same at h = subst (λ (x : Domain). slice_get x.lines m ≡ Some l) (sym same) (subst (λ (k : ℕ). slice_get d.lines k ≡ Some l) (sym at) h)

pub rows_there : (d e : Domain) (pool : List Register) (rows : List LineRow) (m n : ℕ) → e ≡ d → m ≡ n → AreRows d pool rows n → AreRows e pool rows m
rows_there d e pool rows m n same at h = subst (λ (x : Domain). AreRows x pool rows m) (sym same) (subst (λ (k : ℕ). AreRows d pool rows k) (sym at) h)

pub rows_here : (d e : Domain) (pool : List Register) (rows : List LineRow) (m n : ℕ) → e ≡ d → m ≡ n → AreRows e pool rows (m + 1) → AreRows d pool rows (n + 1)
rows_here d e pool rows m n same at h = subst (λ (x : Domain). AreRows x pool rows (n + 1)) same (subst (λ (k : ℕ). AreRows e pool rows (k + 1)) at h)

pub lowest_there : (d e : Domain) (m n : ℕ) (form : DomainLine) (r s : Option ℕ) → e ≡ d → m ≡ n → r ≡ s → IsLowest (breaks e m form) r → IsLowest (breaks d n form) s
lowest_there d e m n form r s same at is h = subst (λ (x : Domain). IsLowest (breaks x n form) s) same (subst (λ (k : ℕ). IsLowest (breaks e k form) s) at (subst (λ (o : Option ℕ). IsLowest (breaks e m form) o) is h))
