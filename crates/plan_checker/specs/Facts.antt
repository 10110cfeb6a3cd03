-- What is kept of a domain.
use Rattle.std.specs.Prelude.{◌≡◌, ℕ, Bool, List, map, IsTrue, slice_get, Some}
use Rattle.rl_defs.specs.Words.{is_name}
use Rattle.rl_defs.specs.Domains.{Lines, trait_name, is_native}
use Rattle.rl_defs.specs.CodeNames.{imports}
use Rattle.rl_defs.specs.BundleNames.{given_by, names_of, load_given}
use Rattle.plan_checker.specs.Lookups.{PlanLines, binding}

abbrev pub import_names : Lines → List (List ℕ)
import_names lines = map (λ d. d.name) (imports lines)

abbrev pub import_traits : Lines → List (List ℕ)
import_traits lines = map (λ d. d.ty) (imports lines)

-- its trait, the names of its imports with their traits, and whether it is native
pub record AreFacts (lines : Lines) (has : List ℕ) (places names traits : List (List ℕ)) (native : Bool) : Type 0 where
  pub trait_is : trait_name lines ≡ has
  pub trait_named : IsTrue (is_name has)
  pub places_are : places ≡ import_names lines
  pub names_are : names ≡ import_names lines
  pub traits_are : traits ≡ import_traits lines
  pub native_is : native ≡ is_native lines

-- all of these may name something
pub record AreNames (names : List (List ℕ)) : Type 0 where
  pub each : (k : ℕ) (name : List ℕ) → slice_get names k ≡ Some name → IsTrue (is_name name)

-- what a plan gives to loads and names in its binds may name something
pub record HasLoadNames (lines : PlanLines) : Type 0 where
  pub loads : AreNames (names_of (given_by load_given lines))
  pub bindings : AreNames (names_of (given_by binding lines))
