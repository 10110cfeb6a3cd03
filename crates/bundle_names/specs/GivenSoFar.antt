-- What is kept of the names that lines of the plan gave.
use Rattle.std.specs.Prelude.{◌≡◌, ◌&&◌, ℕ, Bool, List, [], ◌++◌, ◌∷◌, nat_eq, IsTrue}
use Rattle.std.specs.Cmp.Lexicographic.{pointwise}
use Rattle.indexmap.specs.IndexSet.{contains}
use Rattle.rl_defs.specs.Words.{is_name}
use Rattle.bundle_names.specs.declared.given.Given.{Given}
use Rattle.bundle_names.specs.Tests.{is_given}
use Rattle.bundle_names.specs.PlanNames.{GivenNames}

abbrev pub Pair : Type 0
Pair = (load : List ℕ) × List ℕ

abbrev pub same_pair : Pair → Pair → Bool
same_pair x y = pointwise nat_eq x.0 y.0 && pointwise nat_eq x.1 y.1

-- The pairs are the load and the import of each bound import, which a dot parts among the names.
pub record AreBound (has : Pair → Bool) (binds : List (List ℕ)) : Type 0 where
  pub each : (load import : List ℕ) → IsTrue (is_name load) → has (load, import) ≡ is_given binds (load ++ 46 ∷ import)

-- these names were given
pub record AreGiven (kept : Given) (names : GivenNames) : Type 0 where
  pub targets : kept.targets ≡ names.targets
  pub binds : AreBound (contains same_pair kept.binds) names.binds
  pub serials : kept.serials ≡ names.serials
  pub fuel : kept.fuel ≡ is_given names.fuels []
  pub order : kept.order ≡ is_given names.orders []
