-- The names that lines give, as they are put into a list one after the other.
use Rattle.std.proofs.Common.{◌≡◌, ℕ, ◌+◌, ◌≤◌, List, [], ◌∷◌, ◌++◌, length, map, drop, Some, refl, sym, ap, ◌∙◌, append_assoc}
use Rattle.std.specs.Prelude.{slice_get}
use Rattle.std.specs.List.{flat_map}
use Rattle.std.proofs.lemmas.List.{append-nil, drop_all}
use Rattle.rl_defs.specs.declared.bundle.Numbered.{Numbered}
use Rattle.rl_defs.specs.declared.code.DomainLine.{DomainLine}
use Rattle.rl_defs.specs.declared.code.DomainText.{DomainText}
use Rattle.rl_defs.specs.declared.code.DomainLine.TheVariants as line
use Rattle.rl_defs.specs.Domains.{Lines}
use Rattle.rl_defs.specs.CodeNames.{imports, import_of_form}
use Rattle.rl_defs.specs.BundleNames.{Given, given, given_by, names_of, domain_given, import_given}
use Rattle.bundle_names.specs.PlanNames.{declared_names}
use Rattle.rl_defs.proofs.Places.{drop_at}

pub names_of_append : (line : ℕ) (ns : List (List ℕ)) (gs : List Given) → names_of (map (given line) ns ++ gs) ≡ ns ++ names_of gs
names_of_append line [] gs = refl
names_of_append line (m ∷ ms) gs = ap (λ (xs : List (List ℕ)). m ∷ xs) (names_of_append line ms gs)

-- what the lines from a place on give
abbrev pub names_from : {Form : Type 0} → (Form → List (List ℕ)) → List (Numbered Form) → ℕ → List (List ℕ)
names_from f lines k = names_of (given_by f (drop k lines))

pub listed_more : {Form : Type 0} (f : Form → List (List ℕ)) (lines : List (Numbered Form)) (k : ℕ) (x : Numbered Form) (all old new : List (List ℕ)) → slice_get lines k ≡ Some x → old ++ names_from f lines k ≡ all → new ≡ old ++ f x.form → new ++ names_from f lines (k + 1) ≡ all
listed_more {Form} f lines k x all old new here so_far is =
    ap (λ (xs : List (List ℕ)). xs ++ names_from f lines (k + 1)) is
    ∙ append_assoc old (f x.form) (names_from f lines (k + 1))
    ∙ ap (λ (xs : List (List ℕ)). old ++ xs) (sym (names_of_append x.line (f x.form) (given_by f (drop (k + 1) lines))))
    ∙ ap (λ (ls : List (Numbered Form)). old ++ names_of (given_by f ls)) (sym (drop_at lines k x here))
    ∙ so_far

pub listed_none : {Form : Type 0} (f : Form → List (List ℕ)) (lines : List (Numbered Form)) (k : ℕ) (x : Numbered Form) (all old : List (List ℕ)) → slice_get lines k ≡ Some x → old ++ names_from f lines k ≡ all → f x.form ≡ [] → old ++ names_from f lines (k + 1) ≡ all
listed_none f lines k x all old here so_far none = listed_more f lines k x all old old here so_far (sym (append-nil old) ∙ ap (λ (xs : List (List ℕ)). old ++ xs) (sym none))

pub listed_all : {Form : Type 0} (f : Form → List (List ℕ)) (lines : List (Numbered Form)) (k : ℕ) (all old : List (List ℕ)) → length lines ≤ k → old ++ names_from f lines k ≡ all → old ≡ all
listed_all {Form} f lines k all old le so_far = sym (append-nil old) ∙ ap (λ (ls : List (Numbered Form)). old ++ names_of (given_by f ls)) (sym (drop_all k lines le)) ∙ so_far

given_append : {Form : Type 0} (f : Form → List (List ℕ)) (xs ys : List (Numbered Form)) → names_of (given_by f (xs ++ ys)) ≡ names_of (given_by f xs) ++ names_of (given_by f ys)
given_append f [] ys = refl
given_append f (x ∷ xs) ys =
    names_of_append x.line (f x.form) (given_by f (xs ++ ys))
    ∙ ap (λ (ns : List (List ℕ)). f x.form ++ ns) (given_append f xs ys)
    ∙ sym (append_assoc (f x.form) (names_of (given_by f xs)) (names_of (given_by f ys)))
    ∙ ap (λ (ns : List (List ℕ)). ns ++ names_of (given_by f ys)) (sym (names_of_append x.line (f x.form) (given_by f xs)))

-- the domains from a place on
abbrev pub domains_from : List DomainText → ℕ → List (List ℕ)
domains_from domains k = names_of (given_by domain_given (flat_map (λ d. d.lines) (drop k domains)))

pub domains_more : (domains : List DomainText) (k : ℕ) (x : DomainText) (all old new : List (List ℕ)) → slice_get domains k ≡ Some x → old ++ domains_from domains k ≡ all → new ≡ old ++ names_of (given_by domain_given x.lines) → new ++ domains_from domains (k + 1) ≡ all
domains_more domains k x all old new here so_far is =
    ap (λ (xs : List (List ℕ)). xs ++ domains_from domains (k + 1)) is
    ∙ append_assoc old (names_of (given_by domain_given x.lines)) (domains_from domains (k + 1))
    ∙ ap (λ (xs : List (List ℕ)). old ++ xs) (sym (given_append domain_given x.lines (flat_map (λ (d : DomainText). d.lines) (drop (k + 1) domains))))
    ∙ ap (λ (ds : List DomainText). old ++ names_of (given_by domain_given (flat_map (λ d. d.lines) ds))) (sym (drop_at domains k x here))
    ∙ so_far

pub domains_all : (domains : List DomainText) (k : ℕ) (all old : List (List ℕ)) → length domains ≤ k → old ++ domains_from domains k ≡ all → old ≡ all
domains_all domains k all old le so_far = sym (append-nil old) ∙ ap (λ (ds : List DomainText). old ++ names_of (given_by domain_given (flat_map (λ d. d.lines) ds))) (sym (drop_all k domains le)) ∙ so_far

-- the imports of a domain, and the structs of an interface part
pub imports_given : (lines : Lines) → names_of (given_by import_given lines) ≡ declared_names (imports lines)
imports_given [] = refl
imports_given (x ∷ xs) = names_of_append x.line (import_given x.form) (given_by import_given xs) ∙ ap (λ (ns : List (List ℕ)). import_given x.form ++ ns) (imports_given xs) ∙ by x.form where
  by : (f : DomainLine) → import_given f ++ declared_names (imports xs) ≡ declared_names (import_of_form f (imports xs))
  by (line.Import name has) = refl
  by (line.Domain name has) = refl
  by (line.Words n) = refl
  by (line.Slot name ty) = refl
  by (line.Native n) = refl
  by (line.Function name) = refl
  by (line.Head name items) = refl
  by (line.Code i) = refl
  by line.Close = refl

-- what is made of each item, one after the other
pub mapped_more : {A B : Type 0} (f : A → B) (xs : List A) (k : ℕ) (x : A) (all old new : List B) (y : B) → slice_get xs k ≡ Some x → old ++ map f (drop k xs) ≡ all → new ≡ old ++ y ∷ [] → y ≡ f x → new ++ map f (drop (k + 1) xs) ≡ all
mapped_more {A} {B} f xs k x all old new y here so_far is made =
    ap (λ (zs : List B). zs ++ map f (drop (k + 1) xs)) is
    ∙ append_assoc old (y ∷ []) (map f (drop (k + 1) xs))
    ∙ ap (λ (z : B). old ++ z ∷ map f (drop (k + 1) xs)) made
    ∙ ap (λ (zs : List A). old ++ map f zs) (sym (drop_at xs k x here))
    ∙ so_far

pub mapped_all : {A B : Type 0} (f : A → B) (xs : List A) (k : ℕ) (all old : List B) → length xs ≤ k → old ++ map f (drop k xs) ≡ all → old ≡ all
mapped_all {A} f xs k all old le so_far = sym (append-nil old) ∙ ap (λ (zs : List A). old ++ map f zs) (sym (drop_all k xs le)) ∙ so_far
