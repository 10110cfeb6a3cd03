-- The structs, the methods and the targets of a bundle, by their look-ups.
use Rattle.std.proofs.Common.{◌≡◌, ◌≤◌, ℕ, zero, suc, ◌+◌, get_or, Bool, true, false, List, [], ◌∷◌, ◌++◌, length, Option, Some, None, refl, sym, ap, ◌∙◌, arith, cond, map}
use Rattle.std.specs.Prelude.{slice_get, unwrap_or, is_some}
use Rattle.std.specs.Option.{option_map, option_and_then}
use Rattle.rl_defs.specs.declared.bundle.Numbered.{Numbered}
use Rattle.rl_defs.specs.declared.bundle.Bundle.{Bundle}
use Rattle.rl_defs.specs.declared.code.DomainText.{DomainText}
use Rattle.rl_defs.specs.declared.code.DomainLine.{DomainLine}
use Rattle.rl_defs.specs.declared.code.DomainLine.TheVariants as line
use Rattle.rl_defs.specs.declared.tables.Tables.{Tables}
use Rattle.rl_defs.specs.Interfaces.{place_of}
use Rattle.rl_defs.specs.Domains.{Lines, trait_name}
use Rattle.rl_defs.specs.DomainParts.{IsOneDomain}
use Rattle.rl_defs.specs.DomainParts.{rest_of_domain, begins_domain}
use Rattle.rl_defs.specs.CodeNames.{trait_number}
use Rattle.rl_defs.specs.BundleNames.{Given, given_by, names_of, load_names, domain_given, domains_loaded, lines_of_domain, domain_of_load, shadow_given, shadow_names, shadowed as shadows_loaded, load_lines}
use Rattle.rl_defs.specs.ScriptRules.{target_trait}
use Rattle.rl_defs.specs.LoadOf.{counted, target_number}
use Rattle.script_checker.proofs.Naming.{place_grows, place_behind}
use Rattle.script_checker.specs.Scopes.{domain_trait, load_traits, load_trait, shadow_traits, number_at, all_lines, trait_in, trait_of_lines}

pub map_same : {A B : Type 0} (f g : A → B) → ((x : A) → f x ≡ g x) → (xs : List A) → map f xs ≡ map g xs
map_same f g h [] = refl
map_same {A} {B} f g h (x ∷ xs) = ap (λ (y : B). y ∷ map f xs) (h x) ∙ ap (λ (ys : List B). g x ∷ ys) (map_same f g h xs)

-- a domain has one line that begins it, its first
no_line : (n : ℕ) (form : DomainLine) (ls : Lines) → rest_of_domain (record { line = n; form = form } ∷ ls) ≡ record { line = n; form = form } ∷ ls → given_by domain_given ls ≡ given_by domain_given (record { line = n; form = form } ∷ ls)
no_line n (line.Domain name has) ls e = absurd cc
no_line n (line.Words k) ls e = refl
no_line n (line.Slot name ty) ls e = refl
no_line n (line.Import name has) ls e = refl
no_line n (line.Native body) ls e = refl
no_line n (line.Function name) ls e = refl
no_line n (line.Head label items) ls e = refl
no_line n (line.Code i) ls e = refl
no_line n line.Close ls e = refl

shorter : (b : Bool) (l : Numbered DomainLine) (rest ls : Lines) → cond b [] (l ∷ rest) ≡ l ∷ ls → rest ≡ ls
shorter true l rest ls e = absurd cc
shorter false l rest ls e = cc

no_more : (ls : Lines) → rest_of_domain ls ≡ ls → given_by domain_given ls ≡ []
no_more [] e = refl
no_more (l ∷ ls) e = sym (no_line l.line l.form ls e) ∙ no_more ls (shorter (begins_domain l.form) l (rest_of_domain ls) ls e)

one_name : (n : ℕ) (form : DomainLine) (rest : List Given) → rest ≡ [] → names_of (map (Rattle.rl_defs.specs.BundleNames.given n) (domain_given form) ++ rest) ≡ domain_given form
one_name n (line.Domain name has) rest e = rw e refl
one_name n (line.Words k) rest e = rw e refl
one_name n (line.Slot name ty) rest e = rw e refl
one_name n (line.Import name has) rest e = rw e refl
one_name n (line.Native body) rest e = rw e refl
one_name n (line.Function name) rest e = rw e refl
one_name n (line.Head label items) rest e = rw e refl
one_name n (line.Code i) rest e = rw e refl
one_name n line.Close rest e = rw e refl

domain_names_one : (l : Numbered DomainLine) (ls : Lines) → rest_of_domain ls ≡ ls → names_of (given_by domain_given (l ∷ ls)) ≡ domain_given l.form
domain_names_one l ls e = one_name l.line l.form (given_by domain_given ls) (no_more ls e)

pub first_names : (lines : Lines) (l : Numbered DomainLine) → 1 ≤ length lines → l ≡ get_or lines 0 l → IsOneDomain lines → names_of (given_by domain_given lines) ≡ domain_given l.form
first_names [] l long is one = absurd one
first_names (x ∷ xs) l long is one = domain_names_one x xs one.1 ∙ ap (λ (y : Numbered DomainLine). domain_given y.form) (sym is)

-- the trait of a load's domain, by its place
loads_at : (tables : Tables) (b : Bundle) (domains : List (List ℕ)) (k : ℕ) → trait_of_lines tables (option_and_then (lines_of_domain b) (slice_get domains k)) ≡ unwrap_or (slice_get (map (domain_trait tables b) domains) k) 0
loads_at tables b [] k = refl
loads_at tables b (d ∷ ds) zero = refl
loads_at tables b (d ∷ ds) (suc k) = loads_at tables b ds k

load_at_place : (tables : Tables) (b : Bundle) (load : List ℕ) (o : Option ℕ) → place_of load (load_names b) ≡ o → load_trait tables b load ≡ number_at (load_traits tables b) o
load_at_place tables b load None e = rw e refl
load_at_place tables b load (Some k) e = rw e (loads_at tables b (names_of (given_by domains_loaded b.plan.lines)) k)

-- the trait of a load
pub load_trait_at : (tables : Tables) (b : Bundle) (load : List ℕ) → load_trait tables b load ≡ number_at (load_traits tables b) (place_of load (load_names b))
load_trait_at tables b load = load_at_place tables b load (place_of load (load_names b)) refl

domains_at : (tables : Tables) (domains : List DomainText) (k : ℕ) → trait_of_lines tables (option_map (λ (d : DomainText). d.lines) (slice_get domains k)) ≡ unwrap_or (slice_get (map (λ d. trait_number tables (trait_name d.lines)) domains) k) 0
domains_at tables [] k = refl
domains_at tables (d ∷ ds) zero = refl
domains_at tables (d ∷ ds) (suc k) = domains_at tables ds k

domain_at_place : (tables : Tables) (b : Bundle) (name : List ℕ) (o : Option ℕ) → place_of name (names_of (given_by domain_given (all_lines b.domains))) ≡ o → number_at (map (λ d. trait_number tables (trait_name d.lines)) b.domains) o ≡ domain_trait tables b name
domain_at_place tables b name None e = rw e refl
domain_at_place tables b name (Some k) e = rw e (sym (domains_at tables b.domains k))

-- the trait of a domain, by the names of the traits
pub domain_trait_at : (tables : Tables) (b : Bundle) (name : List ℕ) → trait_in (map (λ t. t.name) tables.traits) b.domains name ≡ domain_trait tables b name
domain_trait_at tables b name = domain_at_place tables b name (place_of name (names_of (given_by domain_given (all_lines b.domains)))) refl

pub load_traits_are : (tables : Tables) (b : Bundle) (traits : List (List ℕ)) (domains : List DomainText) (found : List ℕ) → traits ≡ map (λ t. t.name) tables.traits → domains ≡ b.domains → found ≡ map (trait_in traits domains) (names_of (given_by domains_loaded b.plan.lines)) → found ≡ load_traits tables b
load_traits_are tables b traits domains found are same is =
    is
    ∙ ap (λ (ts : List (List ℕ)). map (trait_in ts domains) (names_of (given_by domains_loaded b.plan.lines))) are
    ∙ ap (λ (ds : List DomainText). map (trait_in (map (λ t. t.name) tables.traits) ds) (names_of (given_by domains_loaded b.plan.lines))) same
    ∙ map_same (trait_in (map (λ t. t.name) tables.traits) b.domains) (domain_trait tables b) (domain_trait_at tables b) (names_of (given_by domains_loaded b.plan.lines))

pub shadow_traits_are : (tables : Tables) (b : Bundle) (loads : List (List ℕ)) (loaded found : List ℕ) → loads ≡ load_names b → loaded ≡ load_traits tables b → found ≡ map (λ d. number_at loaded (place_of d loads)) (names_of (given_by shadows_loaded b.plan.lines)) → found ≡ shadow_traits tables b
shadow_traits_are tables b loads loaded found are were is =
    is
    ∙ ap (λ (ls : List (List ℕ)). map (λ d. number_at loaded (place_of d ls)) (names_of (given_by shadows_loaded b.plan.lines))) are
    ∙ ap (λ (ts : List ℕ). map (λ d. number_at ts (place_of d (load_names b))) (names_of (given_by shadows_loaded b.plan.lines))) were
    ∙ map_same (λ d. number_at (load_traits tables b) (place_of d (load_names b))) (load_trait tables b) (λ d. sym (load_trait_at tables b d)) (names_of (given_by shadows_loaded b.plan.lines))

-- a target that is a load
pub target_is_load : (tables : Tables) (b : Bundle) (q : List ℕ) (k : ℕ) → place_of q (load_names b) ≡ Some k → target_trait tables b q ≡ number_at (load_traits tables b) (Some k)
target_is_load tables b q k e =
    ap (λ (o : Option ℕ). trait_of_lines tables (option_and_then (load_lines b) (cond (is_some o) (Some q) (option_and_then (slice_get (names_of (given_by shadows_loaded b.plan.lines))) (place_of q (shadow_names b)))))) e
    ∙ load_at_place tables b q (Some k) e

-- the trait of a shadow, by its place
shadows_at : (tables : Tables) (b : Bundle) (loads : List (List ℕ)) (k : ℕ) → trait_of_lines tables (option_and_then (load_lines b) (slice_get loads k)) ≡ unwrap_or (slice_get (map (load_trait tables b) loads) k) 0
shadows_at tables b [] k = refl
shadows_at tables b (l ∷ ls) zero = refl
shadows_at tables b (l ∷ ls) (suc k) = shadows_at tables b ls k

shadow_at_place : (tables : Tables) (b : Bundle) (o : Option ℕ) → trait_of_lines tables (option_and_then (load_lines b) (option_and_then (slice_get (names_of (given_by shadows_loaded b.plan.lines))) o)) ≡ number_at (shadow_traits tables b) o
shadow_at_place tables b None = refl
shadow_at_place tables b (Some k) = shadows_at tables b (names_of (given_by shadows_loaded b.plan.lines)) k

-- a target that is no load
pub target_is_shadow : (tables : Tables) (b : Bundle) (q : List ℕ) → place_of q (load_names b) ≡ None → target_trait tables b q ≡ number_at (shadow_traits tables b) (place_of q (shadow_names b))
target_is_shadow tables b q e = rw e (shadow_at_place tables b (place_of q (shadow_names b)))

-- the trait of a target that is no load
pub trait_of_shadow : (tables : Tables) (b : Bundle) (q : List ℕ) (loads shadows : List (List ℕ)) (shadowed : List ℕ) → loads ≡ load_names b → shadows ≡ shadow_names b → shadowed ≡ shadow_traits tables b → place_of q loads ≡ None → number_at shadowed (place_of q shadows) ≡ target_trait tables b q
trait_of_shadow tables b q loads shadows shadowed are behind were none =
    ap (λ (ns : List ℕ). number_at ns (place_of q shadows)) were
    ∙ ap (λ (ns : List (List ℕ)). number_at (shadow_traits tables b) (place_of q ns)) behind
    ∙ sym (target_is_shadow tables b q (ap (λ (ns : List (List ℕ)). place_of q ns) (sym are) ∙ none))

-- the trait of a target that is a load
pub trait_of_load : (tables : Tables) (b : Bundle) (q : List ℕ) (loads : List (List ℕ)) (loaded : List ℕ) (k : ℕ) → loads ≡ load_names b → loaded ≡ load_traits tables b → place_of q loads ≡ Some k → number_at loaded (Some k) ≡ target_trait tables b q
trait_of_load tables b q loads loaded k are were here =
    ap (λ (ns : List ℕ). number_at ns (Some k)) were
    ∙ sym (target_is_load tables b q k (ap (λ (ns : List (List ℕ)). place_of q ns) (sym are) ∙ here))

-- the number of a target, from 1
pub number_of_load : (b : Bundle) (q : List ℕ) (loads : List (List ℕ)) (k : ℕ) → loads ≡ load_names b → place_of q loads ≡ Some k → k + 1 ≡ target_number b q
number_of_load b q loads k are here =
    let there : place_of q (load_names b) ≡ Some k = ap (λ (ns : List (List ℕ)). place_of q ns) (sym are) ∙ here in
    let whole : place_of q (load_names b ++ shadow_names b) ≡ Some k = place_grows q (load_names b) (shadow_names b) (ap is_some there) ∙ there in
    let count : k + 1 ≡ suc k = omega arith in
    count ∙ ap counted (sym whole)

pub number_of_shadow : (b : Bundle) (q : List ℕ) (loads shadows : List (List ℕ)) (k : ℕ) → loads ≡ load_names b → shadows ≡ shadow_names b → place_of q loads ≡ None → place_of q shadows ≡ Some k → length loads + k + 1 ≡ target_number b q
number_of_shadow b q loads shadows k are behind none here =
    let missing : place_of q (load_names b) ≡ None = ap (λ (ns : List (List ℕ)). place_of q ns) (sym are) ∙ none in
    let there : place_of q (shadow_names b) ≡ Some k = ap (λ (ns : List (List ℕ)). place_of q ns) (sym behind) ∙ here in
    let whole : place_of q (load_names b ++ shadow_names b) ≡ Some (length (load_names b) + k) = place_behind q (load_names b) (shadow_names b) missing ∙ ap (option_map (λ j. length (load_names b) + j)) there in
    let count : length loads + k + 1 ≡ suc (length (load_names b) + k) = omega (arith, ap length are) in
    count ∙ ap counted (sym whole)

pub number_of_none : (b : Bundle) (q : List ℕ) (loads shadows : List (List ℕ)) → loads ≡ load_names b → shadows ≡ shadow_names b → place_of q loads ≡ None → place_of q shadows ≡ None → 0 ≡ target_number b q
number_of_none b q loads shadows are behind none nor =
    let missing : place_of q (load_names b) ≡ None = ap (λ (ns : List (List ℕ)). place_of q ns) (sym are) ∙ none in
    let there : place_of q (shadow_names b) ≡ None = ap (λ (ns : List (List ℕ)). place_of q ns) (sym behind) ∙ nor in
    let whole : place_of q (load_names b ++ shadow_names b) ≡ None = place_behind q (load_names b) (shadow_names b) missing ∙ ap (option_map (λ j. length (load_names b) + j)) there in
    ap counted (sym whole)
