-- The domains that a plan loads, among all domains of the bundle.
use Rattle.std.specs.Prelude.{◌≡◌, ℕ, Bool, true, false, List, [], ◌∷◌, ◌++◌, Option, Some, None, slice_get, is_some}
use Rattle.rl_defs.specs.declared.bundle.Bundle.{Bundle}
use Rattle.rl_defs.specs.declared.bundle.PlanLine.{PlanLine}
use Rattle.rl_defs.specs.declared.bundle.PlanLine.TheVariants as plan
use Rattle.rl_defs.specs.Interfaces.{place_of}
use Rattle.rl_defs.specs.Domains.{Lines}
use Rattle.rl_defs.specs.BundleNames.{given_by, names_of, domain_given, domain_names, domains_loaded, lines_of_domain}

-- a load of the plan names this domain
abbrev pub IsLoaded : Bundle → List ℕ → Type 0
IsLoaded b domain = is_some (place_of domain (names_of (given_by domains_loaded b.plan.lines))) ≡ true

-- the domain that a line loads, if it loads one, is loaded
abbrev pub LoadsLoaded : Bundle → PlanLine → Type 0
LoadsLoaded b (plan.Load name domain) = IsLoaded b domain
LoadsLoaded b _ = Unit {0}

-- what stands in a list at a place, and what stands there beside a name
abbrev pub at_place : {A : Type 0} → List A → Option ℕ → Option A
at_place xs None = None
at_place xs (Some place) = slice_get xs place

abbrev pub beside : {A : Type 0} → List (List ℕ) → List A → List ℕ → Option A
beside names xs name = at_place xs (place_of name names)

-- The names of domains with their numbers and lines are those of the domains that the plan loads.
pub record AreLoaded (b : Bundle) (names : List (List ℕ)) (numbers : List ℕ) (facts : List Lines) : Type 0 where
  pub numbers_are : (name : List ℕ) → IsLoaded b name → beside names numbers name ≡ place_of name (domain_names b)
  pub facts_are : (name : List ℕ) → IsLoaded b name → beside names facts name ≡ lines_of_domain b name

-- one thing where it is wanted, and nothing where it isn't
abbrev pub wanted : {A : Type 0} → Bool → A → List A
wanted true x = x ∷ []
wanted false x = []

-- A domain was put last, with its number, where its name is among those that are loaded. Where it isn't, nothing was put.
pub record IsPut (loaded : List (List ℕ)) (lines : Lines) (number : ℕ) (names_before names : List (List ℕ)) (numbers_before numbers : List ℕ) (facts_before facts : List Lines) : Type 0 where
  pub name : List ℕ
  pub named : names_of (given_by domain_given lines) ≡ name ∷ []
  pub names_are : names ≡ names_before ++ wanted (is_some (place_of name loaded)) name
  pub numbers_are : numbers ≡ numbers_before ++ wanted (is_some (place_of name loaded)) number
  pub facts_are : facts ≡ facts_before ++ wanted (is_some (place_of name loaded)) lines
