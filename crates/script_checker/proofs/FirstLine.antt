-- The first line of a script that fails, and its lowest rule.
use Rattle.std.proofs.Common.{◌≡◌, ℕ, zero, suc, ◌+◌, ◌<◌, ◌≤◌, ◌⊎◌, inl, inr, Bool, true, false, [], ◌∷◌, Option, Some, None, refl, sym, ap, subst, arith}
use Rattle.std.specs.Prelude.{slice_get}
use Rattle.rl_defs.specs.declared.Refusal.{Refusal}
use Rattle.rl_defs.specs.declared.bundle.Numbered.{Numbered}
use Rattle.rl_defs.specs.declared.bundle.ClientLine.{ClientLine}
use Rattle.rl_defs.specs.declared.tables.Tables.{Tables}
use Rattle.rl_defs.specs.declared.bundle.Bundle.{Bundle}
use Rattle.rl_defs.specs.Refusals.{Failing, IsFirst, Nowhere}
use Rattle.rl_defs.specs.BundleNames.{ClientLines}
use Rattle.script_checker.specs.Verdicts.{refusal_at, first_of}
use Rattle.script_checker.proofs.Scanning.{kinds_kept, owned_kept, failing, scan, none_first}

-- a line with these answers breaks a rule
abbrev pub Breaks : Bool → Bool → ℕ → Type 0
Breaks kinds owned rule = ((rule ≡ 50) × (kinds ≡ false)) ⊎ ((rule ≡ 51) × (owned ≡ false))

abbrev pub BreaksAt : Tables → Bundle → ClientLines → ℕ → ClientLine → ℕ → Type 0
BreaksAt tables b script place form rule = Breaks (kinds_kept tables b script place form) (owned_kept tables b script place form) rule

-- a line of a script, from a place on, breaks a rule
abbrev pub FailsFrom : Tables → Bundle → ClientLines → ℕ → ClientLines → Failing
FailsFrom tables b script place [] n rule = ⊥
FailsFrom tables b script place (l ∷ ls) n rule = ((n ≡ l.line) × BreaksAt tables b script place l.form rule) ⊎ FailsFrom tables b script (suc place) ls n rule

-- the number is below those of all lines
abbrev pub IsBelow : ℕ → ClientLines → Type 0
IsBelow n [] = Unit {0}
IsBelow n (l ∷ ls) = (n < l.line) × IsBelow n ls

abbrev pub Rising : ClientLines → Type 0
Rising [] = Unit {0}
Rising (l ∷ ls) = IsBelow l.line ls × Rising ls

none_breaks : (kinds owned : Bool) (rule : ℕ) → failing kinds owned ≡ None → Breaks kinds owned rule → ⊥
none_breaks true true rule e f = elim f [ inl a ↦ absurd (untrue a.1) | inr a ↦ absurd (untrue a.1) ] where
  untrue : true ≡ false → ⊥
  untrue g = cc
none_breaks true false rule e f = absurd cc
none_breaks false owned rule e f = absurd cc

some_breaks : (kinds owned : Bool) (rule : ℕ) → failing kinds owned ≡ Some rule → Breaks kinds owned rule
some_breaks true true rule e = absurd cc
some_breaks true false rule e = let is : rule ≡ 51 = cc in inr (is, refl)
some_breaks false owned rule e = let is : rule ≡ 50 = cc in inl (is, refl)

some_lowest : (kinds owned : Bool) (rule other : ℕ) → failing kinds owned ≡ Some rule → Breaks kinds owned other → rule ≤ other
some_lowest true true rule other e f = absurd cc
some_lowest true false rule other e f = let is : rule ≡ 51 = cc in elim f [ inl a ↦ absurd (untrue a.1) | inr a ↦ omega (arith, is, a.0) ] where
  untrue : true ≡ false → ⊥
  untrue g = cc
some_lowest false owned rule other e f = let is : rule ≡ 50 = cc in elim f [ inl a ↦ omega (arith, is, a.0) | inr a ↦ omega (arith, is, a.0) ]

-- where nothing is refused, no line fails
pub scan_none : (tables : Tables) (b : Bundle) (script : ClientLines) (place : ℕ) (ls : ClientLines) → scan tables b script place ls ≡ None → Nowhere (FailsFrom tables b script place ls)
scan_none tables b script place [] e n rule f = f
scan_none tables b script place (l ∷ ls) e n rule f =
    let h = none_first l.line (failing (kinds_kept tables b script place l.form) (owned_kept tables b script place l.form)) (scan tables b script (suc place) ls) e in
    elim f [
      | inl a ↦ none_breaks (kinds_kept tables b script place l.form) (owned_kept tables b script place l.form) rule h.0 a.1
      | inr g ↦ scan_none tables b script (suc place) ls h.1 n rule g
    ]

-- the lines of a script are those that its failures are at
pub fails_below : (tables : Tables) (b : Bundle) (script : ClientLines) (place : ℕ) (ls : ClientLines) (m n rule : ℕ) → IsBelow m ls → FailsFrom tables b script place ls n rule → m < n
fails_below tables b script place [] m n rule h f = absurd f
fails_below tables b script place (l ∷ ls) m n rule h f = elim f [ inl a ↦ omega (arith, h.0, a.0) | inr g ↦ fails_below tables b script (suc place) ls m n rule h.1 g ]

first_line : (tables : Tables) (b : Bundle) (script : ClientLines) (place : ℕ) (l : Numbered ClientLine) (ls : ClientLines) (at : Refusal) (o : Option ℕ) → Rising (l ∷ ls) → failing (kinds_kept tables b script place l.form) (owned_kept tables b script place l.form) ≡ o → first_of (refusal_at l.line o) (scan tables b script (suc place) ls) ≡ Some at → (scan tables b script (suc place) ls ≡ Some at → IsFirst (FailsFrom tables b script (suc place) ls) at.line at.rule) → IsFirst (FailsFrom tables b script place (l ∷ ls)) at.line at.rule
first_line tables b script place l ls at None rises is e later =
    let h = later e in
    record {
      fails = inr h.fails;
      first = λ n r f. elim f [
        | inl a ↦ absurd (none_breaks (kinds_kept tables b script place l.form) (owned_kept tables b script place l.form) r is a.1)
        | inr g ↦ h.first n r g
      ];
    }
first_line tables b script place l ls at (Some rule) rises is e later =
    let here : record { line = l.line; rule = rule } ≡ at = cc in
    subst (λ (x : Refusal). IsFirst (FailsFrom tables b script place (l ∷ ls)) x.line x.rule) here (record {
      fails = inl (refl, some_breaks (kinds_kept tables b script place l.form) (owned_kept tables b script place l.form) rule is);
      first = λ n r f. elim f [
        | inl a ↦ inr (sym a.0, some_lowest (kinds_kept tables b script place l.form) (owned_kept tables b script place l.form) rule r is a.1)
        | inr g ↦ inl (fails_below tables b script (suc place) ls l.line n r rises.0 g)
      ];
    })

-- what is refused is the first line that fails
pub scan_some : (tables : Tables) (b : Bundle) (script : ClientLines) (place : ℕ) (ls : ClientLines) (at : Refusal) → Rising ls → scan tables b script place ls ≡ Some at → IsFirst (FailsFrom tables b script place ls) at.line at.rule
scan_some tables b script place [] at rises e = absurd cc
scan_some tables b script place (l ∷ ls) at rises e = first_line tables b script place l ls at (failing (kinds_kept tables b script place l.form) (owned_kept tables b script place l.form)) rises refl e (λ f. scan_some tables b script (suc place) ls at rises.1 f)

-- failures by the places of lines
pub fails_at : (tables : Tables) (b : Bundle) (script : ClientLines) (place : ℕ) (ls : ClientLines) (i n : ℕ) (form : ClientLine) (rule : ℕ) → slice_get ls i ≡ Some (record { line = n; form = form }) → BreaksAt tables b script (place + i) form rule → FailsFrom tables b script place ls n rule
fails_at tables b script place [] i n form rule here f = absurd cc
fails_at tables b script place (l ∷ ls) zero n form rule here f =
    let same : l ≡ record { line = n; form = form } = cc in
    let zeros : place + 0 ≡ place = omega arith in
    inl (ap (λ (x : Numbered ClientLine). x.line) (sym same), subst (λ (x : Numbered ClientLine). BreaksAt tables b script place x.form rule) (sym same) (subst (λ (p : ℕ). BreaksAt tables b script p form rule) zeros f))
fails_at tables b script place (l ∷ ls) (suc i) n form rule here f =
    let more : place + suc i ≡ suc place + i = omega arith in
    inr (fails_at tables b script (suc place) ls i n form rule here (subst (λ (p : ℕ). BreaksAt tables b script p form rule) more f))

-- a line of the script that fails
pub record FailsHere (tables : Tables) (b : Bundle) (script : ClientLines) (place : ℕ) (ls : ClientLines) (n rule : ℕ) : Type 0 where
  pub index : ℕ
  pub form : ClientLine
  pub here : slice_get ls index ≡ Some (record { line = n; form = form })
  pub breaks : BreaksAt tables b script (place + index) form rule

pub fails_here : (tables : Tables) (b : Bundle) (script : ClientLines) (place : ℕ) (ls : ClientLines) (n rule : ℕ) → FailsFrom tables b script place ls n rule → FailsHere tables b script place ls n rule
fails_here tables b script place [] n rule f = absurd f
fails_here tables b script place (l ∷ ls) n rule f = elim f [
  | inl a ↦ record { index = 0; form = l.form; here = ap (λ (m : ℕ). Some (record { line = m; form = l.form })) (sym a.0); breaks = subst (λ (p : ℕ). BreaksAt tables b script p l.form rule) (zeros place) a.1 }
  | inr g ↦ later (fails_here tables b script (suc place) ls n rule g)
] where
  zeros : (p : ℕ) → p ≡ p + 0
  zeros p = omega arith

  more : (p i : ℕ) → suc p + i ≡ p + suc i
  more p i = omega arith

  later : FailsHere tables b script (suc place) ls n rule → FailsHere tables b script place (l ∷ ls) n rule
  later h = record { index = suc h.index; form = h.form; here = h.here; breaks = subst (λ (p : ℕ). BreaksAt tables b script p h.form rule) (more place h.index) h.breaks }
