-- What the steps of a walk answer.
use Rattle.std.specs.Prelude.{◌≡◌, ℕ, List, [], ◌∷◌, ◌++◌, Some, slice_get}
use Rattle.rl_defs.specs.declared.idl.TypeText.{TypeText}
use Rattle.rl_defs.specs.Interfaces.{Lines, types_at}
use Rattle.rl_defs.specs.Flattening.{struct_held}
use Rattle.exchangeable_types.specs.declared.cells.Cells.{Cells}
use Rattle.exchangeable_types.specs.declared.walk.State.{State}
use Rattle.exchangeable_types.specs.declared.walk.State.TheVariants.{Ended}
use Rattle.exchangeable_types.specs.declared.walk.Stop.{Stop}
use Rattle.exchangeable_types.specs.declared.walk.Stop.TheVariants as stop
use Rattle.exchangeable_types.specs.declared.walk.Added.{Added}
use Rattle.exchangeable_types.specs.declared.walk.Added.TheVariants as added
use Rattle.exchangeable_types.specs.Capped.{CellsOf}
use Rattle.exchangeable_types.specs.Walk.{IsVisit, WaitsFor}

-- The type holds a struct that hasn't ended.
pub record HoldsUnended (lines : Lines) (states : List State) (ty : TypeText) (t : ℕ) : Type 0 where
  pub held : struct_held lines ty ≡ Some t
  pub unended : (cells : Cells) → slice_get states t ≡ Some (Ended cells) → ⊥

-- the cells with one type more, or the same cells and the struct that hasn't ended
abbrev pub IsAdded : Lines → List State → Cells → TypeText → Added → Type 0
IsAdded lines states cells ty (added.Cells more) = (passed : List TypeText) → CellsOf lines 512 passed cells → CellsOf lines 512 (passed ++ ty ∷ []) more
IsAdded lines states cells ty (added.Waits same t) = (same ≡ cells) × HoldsUnended lines states ty t

-- all cells of the struct, or a visit of it that waits
abbrev pub IsStop : Lines → List State → ℕ → Stop → Type 0
IsStop lines states number (stop.Whole same cells) = (same ≡ number) × CellsOf lines 512 (types_at lines number) cells
IsStop lines states number (stop.Waits visit t) = (visit.number ≡ number) × (IsVisit lines visit × WaitsFor lines states number t)
