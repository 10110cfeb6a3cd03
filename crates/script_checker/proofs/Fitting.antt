-- Arguments behind the last parameter, and numbers behind the last cell.
use Rattle.std.proofs.Common.{◌≡◌, ℕ, zero, suc, ◌<◌, true, false, refl, List, [], ◌∷◌, length, drop, arith}
use Rattle.rl_defs.specs.declared.bundle.ScriptArgText.{ScriptArgText}
use Rattle.rl_defs.specs.declared.tables.Kind.{Kind}
use Rattle.rl_defs.specs.declared.tables.Tables.{Tables}
use Rattle.rl_defs.specs.declared.bundle.Bundle.{Bundle}
use Rattle.rl_defs.specs.ScriptRules.{Bound, args_suit, numbers_fit}

pub no_params : (tables : Tables) (b : Bundle) (bound : List Bound) (args : List ScriptArgText) → args_suit tables b bound [] args ≡ true
no_params tables b bound [] = refl
no_params tables b bound (a ∷ args) = refl

pub no_cells : (numbers : List ℕ) (k : ℕ) → k < length numbers → numbers_fit [] (drop k numbers) ≡ false
no_cells [] k lt = absurd (omega arith)
no_cells (n ∷ numbers) zero lt = refl
no_cells (n ∷ numbers) (suc k) lt = no_cells numbers k (omega arith)

pub no_args : (tables : Tables) (b : Bundle) (bound : List Bound) (params : List Kind) → args_suit tables b bound params [] ≡ true
no_args tables b bound [] = refl
no_args tables b bound (k ∷ params) = refl
