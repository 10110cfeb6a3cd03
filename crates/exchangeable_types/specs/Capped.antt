-- Lists of kinds that are kept up to a limit.
use Rattle.std.specs.Prelude.{◌≡◌, ℕ, ◌<◌, ◌≤◌, List, length}
use Rattle.rl_defs.specs.declared.tables.Kind.{Kind}
use Rattle.rl_defs.specs.Interfaces.{Lines}
use Rattle.rl_defs.specs.declared.idl.TypeText.{TypeText}
use Rattle.rl_defs.specs.Flattening.{Flattens}
use Rattle.exchangeable_types.specs.declared.cells.Cells.{Cells}
use Rattle.exchangeable_types.specs.declared.cells.Cells.TheVariants.{Few, TooMany}

-- the kinds themselves, where they are at most the limit, or that they are more
abbrev pub IsCapped : ℕ → List Kind → Cells → Type 0
IsCapped limit kinds (Few list) = (list ≡ kinds) × (length kinds ≤ limit)
IsCapped limit kinds TooMany = limit < length kinds

-- what the types flatten to, up to the limit
pub record CellsOf (lines : Lines) (limit : ℕ) (types : List TypeText) (cells : Cells) : Type 0 where
  pub kinds : List Kind
  pub flat : Flattens lines types kinds
  pub capped : IsCapped limit kinds cells
