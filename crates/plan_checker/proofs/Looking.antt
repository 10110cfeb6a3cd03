-- Look-ups of domains, loads and targets.
use Rattle.std.proofs.Common.{◌≡◌, ℕ, zero, suc, ◌+◌, Bool, true, not, nat_eq, List, [], ◌∷◌, ◌++◌, length, map, Option, Some, None, refl, sym, ap, subst, ◌∙◌, arith}
use Rattle.std.specs.Prelude.{slice_get, IsTrue}
use Rattle.std.specs.List.{flat_map, slice_index_or}
use Rattle.std.specs.Option.{option_map, option_and_then}
use Rattle.std.specs.Cmp.Lexicographic.{pointwise}
use Rattle.rl_defs.specs.declared.bundle.Bundle.{Bundle}
use Rattle.rl_defs.specs.declared.bundle.Numbered.{Numbered}
use Rattle.rl_defs.specs.declared.bundle.PlanLine.{PlanLine}
use Rattle.rl_defs.specs.declared.code.DomainText.{DomainText}
use Rattle.rl_defs.specs.Words.{is_name}
use Rattle.rl_defs.specs.Interfaces.{place_of}
use Rattle.rl_defs.specs.Domains.{Lines, trait_name}
use Rattle.rl_defs.specs.CodeNames.{Declared, imports, type_at, type_of}
use Rattle.rl_defs.specs.BundleNames.{given_by, names_of, load_names, domains_loaded, domain_of_load, shadow_names, shadowed}
use Rattle.rl_defs.specs.LoadOf.{target_number, counted, bound_to, bound_in}
use Rattle.plan_checker.specs.Facts.{AreNames, import_names, import_traits}
use Rattle.plan_checker.specs.Lookups.{bound_at, load_of_shadow}
use Rattle.plan_checker.specs.PlanTests.{is_other_trait}
use Rattle.plan_checker.proofs.Placing.{behind, number_first, place_second, no_empty}

-- the domain of a name, by its place
abbrev pub lines_at : List DomainText → Option ℕ → Option Lines
lines_at domains o = option_map (λ d. d.lines) (option_and_then (slice_get domains) o)

abbrev pub name_at : List (List ℕ) → Option ℕ → Option (List ℕ)
name_at names o = option_and_then (slice_get names) o

pub loaded_some : (b : Bundle) (load : List ℕ) (k : ℕ) → place_of load (load_names b) ≡ Some k → slice_get (names_of (given_by domains_loaded b.plan.lines)) k ≡ domain_of_load b load
loaded_some b load k e = sym (ap (name_at (names_of (given_by domains_loaded b.plan.lines))) e)

pub loaded_none : (b : Bundle) (load : List ℕ) → place_of load (load_names b) ≡ None → domain_of_load b load ≡ None
loaded_none b load e = ap (name_at (names_of (given_by domains_loaded b.plan.lines))) e

-- the load of a shadow, by its place
pub shadow_some : (b : Bundle) (target : List ℕ) (k : ℕ) → place_of target (shadow_names b) ≡ Some k → slice_get (names_of (given_by shadowed b.plan.lines)) k ≡ load_of_shadow b target
shadow_some b target k e = sym (ap (name_at (names_of (given_by shadowed b.plan.lines))) e)

pub shadow_none : (b : Bundle) (target : List ℕ) → place_of target (shadow_names b) ≡ None → load_of_shadow b target ≡ None
shadow_none b target e = ap (name_at (names_of (given_by shadowed b.plan.lines))) e

-- the number of a target
pub number_of_load : (target : List ℕ) (loads shadows : List (List ℕ)) (k : ℕ) → place_of target loads ≡ Some k → k + 1 ≡ counted (place_of target (loads ++ shadows))
number_of_load target loads shadows k e = sym (number_first target loads shadows k e)

pub number_of_shadow : (target : List ℕ) (loads shadows : List (List ℕ)) (k : ℕ) → place_of target loads ≡ None → place_of target shadows ≡ Some k → length loads + k + 1 ≡ counted (place_of target (loads ++ shadows))
number_of_shadow target loads shadows k none e =
    let at : place_of target (loads ++ shadows) ≡ Some (length loads + k) = place_second target loads shadows none ∙ ap (behind (length loads)) e in
    let number : counted (Some (length loads + k)) ≡ length loads + k + 1 = omega arith in
    sym (ap counted at ∙ number)

pub number_of_none : (target : List ℕ) (loads shadows : List (List ℕ)) → place_of target loads ≡ None → place_of target shadows ≡ None → 0 ≡ counted (place_of target (loads ++ shadows))
number_of_none target loads shadows none e = sym (ap counted (place_second target loads shadows none ∙ ap (behind (length loads)) e))

-- what is bound to an import
abbrev or_empty : Option (List ℕ) → List ℕ
or_empty None = []
or_empty (Some x) = x

index_first : (xs : List (List ℕ)) → slice_index_or xs 0 [] ≡ or_empty (slice_get xs 0)
index_first [] = refl
index_first (x ∷ xs) = refl

pub bound_is : (b : Bundle) (load import : List ℕ) → bound_to b load import ≡ or_empty (bound_at b.plan.lines load import)
bound_is b load import = index_first (flat_map (λ (l : Numbered PlanLine). bound_in load import l.form) b.plan.lines)

pub number_some : (b : Bundle) (load import target : List ℕ) → bound_at b.plan.lines load import ≡ Some target → target_number b target ≡ target_number b (bound_to b load import)
number_some b load import target e = ap (target_number b) (sym (bound_is b load import ∙ ap or_empty e))

pub number_none : (b : Bundle) (load import : List ℕ) → bound_at b.plan.lines load import ≡ None → AreNames (load_names b) → AreNames (shadow_names b) → 0 ≡ target_number b (bound_to b load import)
number_none b load import e loads shadows = number_of_none [] (load_names b) (shadow_names b) (no_empty (load_names b) loads) (no_empty (shadow_names b) shadows) ∙ ap (target_number b) (sym (bound_is b load import ∙ ap or_empty e))

-- whether an import has another trait than a target
abbrev differ : Lines → Option ℕ → List ℕ → Bool
differ binds place has = not (pointwise nat_eq (type_at (imports binds) place) has)

empty_differs : (has : List ℕ) → IsTrue (is_name has) → not (pointwise nat_eq [] has) ≡ true
empty_differs [] h = absurd cc
empty_differs (b ∷ bs) h = refl

moved : (v b w t : Lines) (import : List ℕ) (r : Bool) → v ≡ b → w ≡ t → r ≡ is_other_trait v import w → r ≡ is_other_trait b import t
moved v b w t import r vb wt h = subst (λ (x : Lines). r ≡ is_other_trait x import t) vb (subst (λ (y : Lines). r ≡ is_other_trait v import y) wt h)

pub other_missing : (v b w t : Lines) (import has : List ℕ) (places : List (List ℕ)) → v ≡ b → w ≡ t → places ≡ import_names v → place_of import places ≡ None → trait_name w ≡ has → IsTrue (is_name has) → true ≡ is_other_trait b import t
other_missing v b w t import has places vb wt are none is named =
    moved v b w t import true vb wt (sym (ap (λ (p : Option ℕ). differ v p (trait_name w)) (ap (place_of import) (sym are) ∙ none) ∙ ap (λ (x : List ℕ). not (pointwise nat_eq [] x)) is ∙ empty_differs has named))

type_there : (declared : List Declared) (k : ℕ) (has : List ℕ) → slice_get (map (λ (d : Declared). d.ty) declared) k ≡ Some has → type_of (slice_get declared k) ≡ has
type_there [] k has e = absurd cc
type_there (d ∷ ds) zero has e = cc
type_there (d ∷ ds) (suc k) has e = type_there ds k has e

type_gone : (declared : List Declared) (k : ℕ) → slice_get (map (λ (d : Declared). d.ty) declared) k ≡ None → type_of (slice_get declared k) ≡ []
type_gone [] zero e = refl
type_gone [] (suc k) e = refl
type_gone (d ∷ ds) zero e = absurd cc
type_gone (d ∷ ds) (suc k) e = type_gone ds k e

pub other_found : (v b w t : Lines) (import has wanted : List ℕ) (places traits : List (List ℕ)) (k : ℕ) (r : Bool) → v ≡ b → w ≡ t → places ≡ import_names v → traits ≡ import_traits v → place_of import places ≡ Some k → slice_get traits k ≡ Some has → trait_name w ≡ wanted → r ≡ not (pointwise nat_eq has wanted) → r ≡ is_other_trait b import t
other_found v b w t import has wanted places traits k r vb wt p_are t_are at there is same =
    moved v b w t import r vb wt (same ∙ sym (ap (λ (p : Option ℕ). differ v p (trait_name w)) (ap (place_of import) (sym p_are) ∙ at) ∙ ap (λ (x : List ℕ). not (pointwise nat_eq x (trait_name w))) (type_there (imports v) k has (ap (λ (xs : List (List ℕ)). slice_get xs k) (sym t_are) ∙ there)) ∙ ap (λ (x : List ℕ). not (pointwise nat_eq has x)) is))

pub other_gone : (v b w t : Lines) (import has : List ℕ) (places traits : List (List ℕ)) (k : ℕ) → v ≡ b → w ≡ t → places ≡ import_names v → traits ≡ import_traits v → place_of import places ≡ Some k → slice_get traits k ≡ None → trait_name w ≡ has → IsTrue (is_name has) → true ≡ is_other_trait b import t
other_gone v b w t import has places traits k vb wt p_are t_are at gone is named =
    moved v b w t import true vb wt (sym (ap (λ (p : Option ℕ). differ v p (trait_name w)) (ap (place_of import) (sym p_are) ∙ at) ∙ ap (λ (x : List ℕ). not (pointwise nat_eq x (trait_name w))) (type_gone (imports v) k (ap (λ (xs : List (List ℕ)). slice_get xs k) (sym t_are) ∙ gone)) ∙ ap (λ (x : List ℕ). not (pointwise nat_eq [] x)) is ∙ empty_differs has named))
