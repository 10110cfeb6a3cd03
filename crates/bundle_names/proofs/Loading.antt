-- Which domains are loaded, and the imports that are kept of them.
use Rattle.std.proofs.Common.{◌≡◌, ℕ, zero, suc, ◌+◌, ◌≤◌, ◌<◌, Bool, true, false, ◌||◌, List, [], ◌∷◌, ◌++◌, length, drop, if◌then◌else◌, Option, Some, None, refl, sym, ap, subst, ◌∙◌, arith, append_assoc}
use Rattle.std.specs.Prelude.{slice_get}
use Rattle.std.proofs.lemmas.Bool.Decides.{Decides-eqb}
use Rattle.std.proofs.lemmas.List.{append-nil, drop_all}
use Rattle.rl_defs.specs.declared.code.DomainText.{DomainText}
use Rattle.rl_defs.specs.Interfaces.{place_of}
use Rattle.rl_defs.specs.CodeNames.{imports}
use Rattle.rl_defs.proofs.Places.{drop_at}
use Rattle.bundle_names.specs.PlanNames.{declared_names, is_place, is_loaded, imports_from}

-- ---- marks

swap : (a m r : Bool) → ((a || m) || r) ≡ (m || (a || r))
swap true true r = refl
swap true false r = refl
swap false true r = refl
swap false false r = refl

false_last : (a : Bool) → (a || false) ≡ a
false_last true = refl
false_last false = refl

-- one name more is marked
pub mark_more : (loaded domains : List (List ℕ)) (i : ℕ) (name : List ℕ) (number : ℕ) (mark marked all : Bool) → slice_get loaded i ≡ Some name → marked ≡ (is_place number (place_of name domains) || mark) → (mark || is_loaded (drop i loaded) domains number) ≡ all → (marked || is_loaded (drop (i + 1) loaded) domains number) ≡ all
mark_more loaded domains i name number mark marked all here is so_far =
    ap (λ (b : Bool). b || is_loaded (drop (i + 1) loaded) domains number) is
    ∙ swap (is_place number (place_of name domains)) mark (is_loaded (drop (i + 1) loaded) domains number)
    ∙ ap (λ (names : List (List ℕ)). mark || is_loaded names domains number) (sym (drop_at loaded i name here))
    ∙ so_far

pub mark_all : (loaded domains : List (List ℕ)) (i number : ℕ) (mark all : Bool) → length loaded ≤ i → (mark || is_loaded (drop i loaded) domains number) ≡ all → mark ≡ all
mark_all loaded domains i number mark all le so_far = sym (false_last mark) ∙ ap (λ (names : List (List ℕ)). mark || is_loaded names domains number) (sym (drop_all i loaded le)) ∙ so_far

-- ---- tables

-- the imports of one domain more
pub kept_more : (is_kept : ℕ → Bool) (ds : List DomainText) (k : ℕ) (d : DomainText) (all old new : List (List (List ℕ))) (names : List (List ℕ)) → slice_get ds k ≡ Some d → old ++ imports_from is_kept k (drop k ds) ≡ all → new ≡ old ++ names ∷ [] → names ≡ (if is_kept k then declared_names (imports d.lines) else []) → new ++ imports_from is_kept (k + 1) (drop (k + 1) ds) ≡ all
kept_more is_kept ds k d all old new names here so_far is made =
    ap (λ (zs : List (List (List ℕ))). zs ++ imports_from is_kept (k + 1) (drop (k + 1) ds)) is
    ∙ append_assoc old (names ∷ []) (imports_from is_kept (k + 1) (drop (k + 1) ds))
    ∙ ap (λ (z : List (List ℕ)). old ++ z ∷ imports_from is_kept (k + 1) (drop (k + 1) ds)) made
    ∙ ap (λ (zs : List DomainText). old ++ imports_from is_kept k zs) (sym (drop_at ds k d here))
    ∙ so_far

pub kept_all : (is_kept : ℕ → Bool) (ds : List DomainText) (k : ℕ) (all old : List (List (List ℕ))) → length ds ≤ k → old ++ imports_from is_kept k (drop k ds) ≡ all → old ≡ all
kept_all is_kept ds k all old le so_far = sym (append-nil old) ∙ ap (λ (zs : List DomainText). old ++ imports_from is_kept k zs) (sym (drop_all k ds le)) ∙ so_far

-- two tables are the same where the same domains are kept
pub same_kept : (kept other : ℕ → Bool) (at : ℕ) (ds : List DomainText) → ((k : ℕ) → k < at + length ds → kept k ≡ other k) → imports_from kept at ds ≡ imports_from other at ds
same_kept kept other at [] same = refl
same_kept kept other at (d ∷ ds) same =
    ap (λ (b : Bool). (if b then declared_names (imports d.lines) else []) ∷ imports_from kept (at + 1) ds) (same at (omega arith))
    ∙ ap (λ (zs : List (List (List ℕ))). (if other at then declared_names (imports d.lines) else []) ∷ zs) (same_kept kept other (at + 1) ds (λ k lt. same k (omega (arith, lt))))

-- the imports of a domain that is kept, by its place
pub domain_imports : (is_kept : ℕ → Bool) (at : ℕ) (ds : List DomainText) (k : ℕ) (d : DomainText) → is_kept (at + k) ≡ true → slice_get ds k ≡ Some d → slice_get (imports_from is_kept at ds) k ≡ Some (declared_names (imports d.lines))
domain_imports is_kept at [] k d kept e = absurd cc
domain_imports is_kept at (x ∷ xs) zero d kept e =
    let same : x ≡ d = cc in
    let here : is_kept at ≡ true = subst (λ (i : ℕ). is_kept i ≡ true) (omega arith) kept in
    ap (λ (b : Bool). Some (if b then declared_names (imports x.lines) else [])) here ∙ ap (λ (y : DomainText). Some (declared_names (imports y.lines))) same
domain_imports is_kept at (x ∷ xs) (suc k) d kept e = domain_imports is_kept (at + 1) xs k d (subst (λ (i : ℕ). is_kept i ≡ true) (omega arith) kept) e

pub imports_domain : (is_kept : ℕ → Bool) (at : ℕ) (ds : List DomainText) (k : ℕ) (names : List (List ℕ)) → is_kept (at + k) ≡ true → slice_get (imports_from is_kept at ds) k ≡ Some names → (d : DomainText) × (slice_get ds k ≡ Some d) × (names ≡ declared_names (imports d.lines))
imports_domain is_kept at [] k names kept e = absurd cc
imports_domain is_kept at (x ∷ xs) zero names kept e =
    let here : is_kept at ≡ true = subst (λ (i : ℕ). is_kept i ≡ true) (omega arith) kept in
    let there : Some (declared_names (imports x.lines)) ≡ Some names = subst (λ (b : Bool). Some (if b then declared_names (imports x.lines) else []) ≡ Some names) here e in
    (x, refl, cc)
imports_domain is_kept at (x ∷ xs) (suc k) names kept e = imports_domain is_kept (at + 1) xs k names (subst (λ (i : ℕ). is_kept i ≡ true) (omega arith) kept) e

-- ---- a domain that a load names is loaded

at_place : (k : ℕ) (o : Option ℕ) → o ≡ Some k → is_place k o ≡ true
at_place k None e = absurd cc
at_place k (Some j) e = let same : j ≡ k = cc in rw same ((Decides-eqb k k).1 refl)

pub is_loaded_at : (loaded domains : List (List ℕ)) (i : ℕ) (domain : List ℕ) (k : ℕ) → slice_get loaded i ≡ Some domain → place_of domain domains ≡ Some k → is_loaded loaded domains k ≡ true
is_loaded_at [] domains i domain k e p = absurd cc
is_loaded_at (x ∷ xs) domains zero domain k e p =
    let same : x ≡ domain = cc in
    rw (same, at_place k (place_of domain domains) p) refl
is_loaded_at (x ∷ xs) domains (suc i) domain k e p = either (is_place k (place_of x domains)) (is_loaded_at xs domains i domain k e p) where
  either : (b : Bool) {c : Bool} → c ≡ true → (b || c) ≡ true
  either true h = refl
  either false h = h
