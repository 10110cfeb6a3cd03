-- How a load that is written out is shown to be valid: what holds of each of a few items, and what computing decides.
use Rattle.std.proofs.Common.{◌≡◌, ◌≢◌, ℕ, zero, suc, ◌+◌, ◌==◌, ◌&&◌, ◌||◌, Bool, true, false, not, List, [], ◌∷◌, Some, refl, sym, ap, subst, ◌∙◌, arith}
use Rattle.std.specs.Prelude.{slice_get, All, nat_eq}
use Rattle.std.specs.List.{AllByRecursion, AllPairs, Contains, list_all, list_any}
use Rattle.std.specs.Cmp.Lexicographic.{pointwise}
use Rattle.rl_defs.specs.declared.bundle.Numbered.{Numbered}
use Rattle.rl_defs.specs.declared.code.DomainLine.{DomainLine}
use Rattle.rl_defs.specs.declared.tables.Kind.{Kind}
use Rattle.rl_defs.specs.declared.tables.Kind.TheVariants as kind
use Rattle.rl_defs.specs.Refusals.{Nowhere}
use Rattle.rl_defs.specs.Words.{same_bytes}
use Rattle.rl_defs.specs.Domains.{Lines}
use Rattle.rl_defs.specs.DomainValue.{Domain}
use Rattle.rl_defs.specs.CodeRules.{Sentence, sentences, FailsCode}
use Rattle.rl_defs.proofs.Lists.{and_left, and_right, all_of, contains_at, at_contained, pairs_of}
use Rattle.rl_defs.proofs.NamePlaces.{same_name, same_self, Apart}

-- ---- each of a few

each_at : {A : Type 0} (P : A → Type 0) (xs : List A) → AllByRecursion P xs → (k : ℕ) (x : A) → slice_get xs k ≡ Some x → P x
each_at P [] each k x e = absurd cc
each_at P (y ∷ xs) each zero x e = let same : y ≡ x = cc in subst P same each.0
each_at P (y ∷ xs) each (suc k) x e = each_at P xs each.1 k x e

pub all_each : {A : Type 0} (P : A → Type 0) (xs : List A) → AllByRecursion P xs → All P xs
all_each P xs each = all_of P xs (each_at P xs each)

-- ---- tests

pub test_at : {A : Type 0} (test : A → Bool) (xs : List A) (k : ℕ) (x : A) → list_all test xs ≡ true → slice_get xs k ≡ Some x → test x ≡ true
test_at test [] k x all e = absurd cc
test_at test (y ∷ xs) zero x all e = let same : y ≡ x = cc in subst (λ z. test z ≡ true) same (and_left (test y) (list_all test xs) all)
test_at test (y ∷ xs) (suc k) x all e = test_at test xs k x (and_right (test y) (list_all test xs) all) e

any_true : {A : Type 0} (test : A → Bool) (xs : List A) (k : ℕ) (x : A) → slice_get xs k ≡ Some x → test x ≡ true → list_any test xs ≡ true
any_true test [] k x e is = absurd cc
any_true test (y ∷ xs) zero x e is = let same : x ≡ y = cc in rw (subst (λ z. test z ≡ true) same is) refl
any_true test (y ∷ xs) (suc k) x e is = either (test y) (any_true test xs k x e is) where
  either : (b : Bool) → list_any test xs ≡ true → (b || list_any test xs) ≡ true
  either true h = refl
  either false h = h

-- ---- names

abbrev is_named : List (List ℕ) → List ℕ → Bool
is_named names name = list_any (λ other. same_bytes name other) names

abbrev pub are_apart : List (List ℕ) → Bool
are_apart [] = true
are_apart (n ∷ names) = not (is_named names n) && are_apart names

no_other : (names : List (List ℕ)) (n : List ℕ) (k : ℕ) → not (is_named names n) ≡ true → slice_get names k ≡ Some n → ⊥
no_other names n k apart e =
    let there : is_named names n ≡ true = any_true (λ other. same_bytes n other) names k n e (same_self n) in
    let bad : false ≡ true = sym (ap not there) ∙ apart in
    absurd cc

apart_at : (names : List (List ℕ)) → are_apart names ≡ true → Apart names
apart_at [] h j k q e d = absurd cc
apart_at (n ∷ names) h zero zero q e d = refl
apart_at (n ∷ names) h zero (suc k) q e d = let same : q ≡ n = cc in absurd (no_other names n k (and_left (not (is_named names n)) (are_apart names) h) (d ∙ ap (λ (x : List ℕ). Some x) same))
apart_at (n ∷ names) h (suc j) zero q e d = let same : q ≡ n = cc in absurd (no_other names n j (and_left (not (is_named names n)) (are_apart names) h) (e ∙ ap (λ (x : List ℕ). Some x) same))
apart_at (n ∷ names) h (suc j) (suc k) q e d = ap (λ (i : ℕ). suc i) (apart_at names (and_right (not (is_named names n)) (are_apart names) h) j k q e d)

pub names_differ : (names : List (List ℕ)) → are_apart names ≡ true → AllPairs ◌≢◌ names
names_differ names h = pairs_of names (apart_at names h)

found : (names : List (List ℕ)) (name : List ℕ) → is_named names name ≡ true → (k : ℕ) × (slice_get names k ≡ Some name)
found [] name h = absurd cc
found (n ∷ names) name h = by (pointwise nat_eq name n) refl h (found names name) where
  by : (b : Bool) → pointwise nat_eq name n ≡ b → (b || is_named names name) ≡ true → (is_named names name ≡ true → (k : ℕ) × (slice_get names k ≡ Some name)) → (k : ℕ) × (slice_get (n ∷ names) k ≡ Some name)
  by true is h more = (0, ap (λ (x : List ℕ). Some x) (sym (same_name name n is)))
  by false is h more = let r = more h in (suc r.0, r.1)

-- the names that lines use are among these
pub lines_known : (names : List (List ℕ)) (uses : DomainLine → List (List ℕ)) (lines : Lines) → list_all (λ l. list_all (is_named names) (uses l.form)) lines ≡ true → (l : Numbered DomainLine) → Contains lines l → All (Contains names) (uses l.form)
lines_known names uses lines h l c =
    let at = at_contained lines l c in
    let used = test_at (λ (x : Numbered DomainLine). list_all (is_named names) (uses x.form)) lines at.0 l h at.1 in
    all_of (Contains names) (uses l.form) (λ k name e.
    let p = found names name (test_at (is_named names) (uses l.form) k name used e) in
    contains_at names p.0 name p.1)

-- ---- kinds

abbrev is_number : Kind → Bool
is_number (kind.Num w) = true
is_number _ = false

-- numbers are no objects
pub no_objects : (kinds : List Kind) → list_all is_number kinds ≡ true → (s : ℕ) → Contains kinds (kind.Own s) → ⊥
no_objects kinds h s c =
    let at = at_contained kinds (kind.Own s) c in
    let bad : false ≡ true = test_at is_number kinds at.0 (kind.Own s) h at.1 in
    absurd cc

-- ---- rules of domain code

abbrev keeps_line : Domain → ℕ → DomainLine → Bool
keeps_line d n form = list_all (λ (s : Sentence). s.1) (sentences d n form)

-- each line, from this place on, keeps every sentence of the rules
abbrev pub keeps_from : Domain → ℕ → Lines → Bool
keeps_from d n [] = true
keeps_from d n (l ∷ ls) = keeps_line d n l.form && keeps_from d (suc n) ls

line_kept : (d : Domain) (ls : Lines) (n k place : ℕ) (l : Numbered DomainLine) → place ≡ n + k → keeps_from d n ls ≡ true → slice_get ls k ≡ Some l → keeps_line d place l.form ≡ true
line_kept d [] n k place l is h e = absurd cc
line_kept d (x ∷ ls) n zero place l is h e =
    let same : x ≡ l = cc in
    let here : n ≡ place = omega (arith, is) in
    subst (λ (y : Numbered DomainLine). keeps_line d place y.form ≡ true) same (subst (λ (m : ℕ). keeps_line d m x.form ≡ true) here (and_left (keeps_line d n x.form) (keeps_from d (suc n) ls) h))
line_kept d (x ∷ ls) n (suc k) place l is h e = line_kept d ls (suc n) k place l (omega (arith, is)) (and_right (keeps_line d n x.form) (keeps_from d (suc n) ls) h) e

unbroken : (ss : List Sentence) (rule : ℕ) → list_all (λ (s : Sentence). s.1) ss ≡ true → list_any (λ (s : Sentence). not s.1 && (s.0 == rule)) ss ≡ true → ⊥
unbroken [] rule kept broken = absurd cc
unbroken ((r, true) ∷ ss) rule kept broken = unbroken ss rule kept broken
unbroken ((r, false) ∷ ss) rule kept broken = absurd cc

pub rules_kept : (d : Domain) → keeps_from d 0 d.lines ≡ true → Nowhere (FailsCode d)
rules_kept d h n rule f = unbroken (sentences d f.place f.form) rule (line_kept d d.lines 0 f.place f.place (record { line = n; form = f.form }) (omega arith) h f.here) f.broken
