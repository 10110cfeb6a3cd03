-- What lines give, line by line.
use Rattle.std.proofs.Common.{◌≡◌, ℕ, List, [], ◌∷◌, ◌++◌, refl, sym, ap, ◌∙◌, map, append_assoc}
use Rattle.std.proofs.lemmas.List.{map-append}
use Rattle.rl_defs.specs.declared.bundle.Numbered.{Numbered}
use Rattle.rl_defs.specs.declared.code.DomainText.{DomainText}
use Rattle.rl_defs.specs.DomainValue.{Domain}
use Rattle.rl_defs.specs.Domains.{Lines}
use Rattle.rl_defs.specs.BundleNames.{Given, given, given_by, names_of, domain_given}
use Rattle.rl_defs.specs.BundleOrder.{text_of}
use Rattle.script_checker.specs.Scopes.{all_lines}

pub names_given : (n : ℕ) (names : List (List ℕ)) → names_of (map (given n) names) ≡ names
names_given n [] = refl
names_given n (x ∷ xs) = ap (λ (ys : List (List ℕ)). x ∷ ys) (names_given n xs)

pub given_more : {Form : Type 0} (f : Form → List (List ℕ)) (l : Numbered Form) (ls : List (Numbered Form)) → names_of (given_by f (l ∷ ls)) ≡ f l.form ++ names_of (given_by f ls)
given_more f l ls = map-append (λ (g : Given). g.name) (map (given l.line) (f l.form)) (given_by f ls) ∙ ap (λ (xs : List (List ℕ)). xs ++ names_of (given_by f ls)) (names_given l.line (f l.form))

pub given_append : {Form : Type 0} (f : Form → List (List ℕ)) (xs ys : List (Numbered Form)) → names_of (given_by f (xs ++ ys)) ≡ names_of (given_by f xs) ++ names_of (given_by f ys)
given_append f [] ys = refl
given_append f (x ∷ xs) ys =
    given_more f x (xs ++ ys)
    ∙ ap (λ (zs : List (List ℕ)). f x.form ++ zs) (given_append f xs ys)
    ∙ sym (append_assoc (f x.form) (names_of (given_by f xs)) (names_of (given_by f ys)))
    ∙ ap (λ (zs : List (List ℕ)). zs ++ names_of (given_by f ys)) (sym (given_more f x xs))

-- the names of one domain more
pub domains_more : (old new total : List (List ℕ)) (lines : Lines) (d : Domain) (ds rest : List Domain) → ds ≡ d ∷ rest → old ++ names_of (given_by domain_given (all_lines (map text_of ds))) ≡ total → new ≡ old ++ names_of (given_by domain_given lines) → lines ≡ d.lines → new ++ names_of (given_by domain_given (all_lines (map text_of rest))) ≡ total
domains_more old new total lines d ds rest is h step same =
    ap (λ (ns : List (List ℕ)). ns ++ names_of (given_by domain_given (all_lines (map text_of rest)))) (step ∙ ap (λ (ls : Lines). old ++ names_of (given_by domain_given ls)) same)
    ∙ append_assoc old (names_of (given_by domain_given d.lines)) (names_of (given_by domain_given (all_lines (map text_of rest))))
    ∙ ap (λ (ns : List (List ℕ)). old ++ ns) (sym (ap (λ (xs : List Domain). names_of (given_by domain_given (all_lines (map text_of xs)))) is ∙ given_append domain_given d.lines (all_lines (map text_of rest))))
    ∙ h

pub numbers_more : (f : DomainText → ℕ) (old new total : List ℕ) (x : ℕ) (d : Domain) (ds rest : List Domain) → ds ≡ d ∷ rest → old ++ map f (map text_of ds) ≡ total → new ≡ old ++ x ∷ [] → x ≡ f (text_of d) → new ++ map f (map text_of rest) ≡ total
numbers_more f old new total x d ds rest is h step same =
    ap (λ (ns : List ℕ). ns ++ map f (map text_of rest)) (step ∙ ap (λ (n : ℕ). old ++ n ∷ []) same)
    ∙ append_assoc old (f (text_of d) ∷ []) (map f (map text_of rest))
    ∙ ap (λ (xs : List Domain). old ++ map f (map text_of xs)) (sym is)
    ∙ h
