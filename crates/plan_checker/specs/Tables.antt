-- What is kept of the names of a plan.
use Rattle.std.specs.Prelude.{◌≡◌, ℕ, ◌<◌, ◌^◌, ◌&&◌, Bool, nat_eq, List, length, Option, Some, None, is_some, if◌then◌else◌}
use Rattle.rl_defs.specs.Words.{same_bytes}
use Rattle.std.specs.Cmp.Lexicographic.{pointwise}
use Rattle.rl_defs.specs.declared.bundle.Bundle.{Bundle}
use Rattle.rl_defs.specs.Domains.{Lines}
use Rattle.rl_defs.specs.BundleNames.{given_by, names_of, load_names, domains_loaded, serial_given, shadow_names, shadowed}
use Rattle.plan_checker.specs.Facts.{AreNames}
use Rattle.plan_checker.specs.Loaded.{AreLoaded}
use Rattle.plan_checker.specs.Lookups.{binding, bound_at}

-- two pairs of names are the same
abbrev pub same_pair : (List ℕ) × (List ℕ) → (List ℕ) × (List ℕ) → Bool
same_pair x y = pointwise nat_eq x.0 y.0 && pointwise nat_eq x.1 y.1

-- loads or shadows by their names, each with another name
pub record ArePairs (names others all_names all_others : List (List ℕ)) : Type 0 where
  pub names_are : names ≡ all_names
  pub others_are : others ≡ all_others
  pub named : AreNames names
  pub few : length names < 2 ^ 31

-- the look-ups of a plan
pub record AreTables (b : Bundle) (names : List (List ℕ)) (numbers : List ℕ) (facts : List Lines) (loads load_domains shadows shadow_loads serial : List (List ℕ)) (bound : List ℕ → List ℕ → Option (List ℕ)) : Type 0 where
  pub domains_are : AreLoaded b names numbers facts
  pub loads_are : ArePairs loads load_domains (load_names b) (names_of (given_by domains_loaded b.plan.lines))
  pub shadows_are : ArePairs shadows shadow_loads (shadow_names b) (names_of (given_by shadowed b.plan.lines))
  pub serial_are : serial ≡ names_of (given_by serial_given b.plan.lines)
  pub bound_is : (load import : List ℕ) → bound load import ≡ bound_at b.plan.lines load import
  pub binding_named : AreNames (names_of (given_by binding b.plan.lines))

-- a look-up of pairs after one more pair was noted, where it wasn't there before
abbrev pub noted_pair : Option (List ℕ) → List ℕ → List ℕ → List ℕ → List ℕ → List ℕ → Option (List ℕ)
noted_pair before load import target q r = if is_some before then before else (if same_bytes load q && same_bytes import r then Some target else None)
