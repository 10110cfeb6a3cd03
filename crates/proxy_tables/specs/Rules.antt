-- What is answered for one method.
use Rattle.std.specs.Prelude.{◌≡◌, ℕ, ◌<◌, ◌≤◌, ◌⊎◌, Bool, true, false, List, Option, Some, None, slice_get, length, IsTrue}
use Rattle.std.specs.List.{list_any}
use Rattle.rl_defs.specs.declared.idl.Param.{Param}
use Rattle.rl_defs.specs.declared.idl.ResultText.{ResultText}
use Rattle.rl_defs.specs.declared.idl.TypeText.{TypeText}
use Rattle.rl_defs.specs.declared.tables.Kind.{Kind}
use Rattle.rl_defs.specs.declared.tables.Kind.TheVariants as kind
use Rattle.rl_defs.specs.declared.tables.StructRow.{StructRow}
use Rattle.rl_defs.specs.Interfaces.{Lines, structs_of, param_types, result_types}
use Rattle.rl_defs.specs.Flattening.{Flattens}
use Rattle.rl_defs.specs.TypeRules.{is_lent, AreStructRows}
use Rattle.rl_defs.specs.MethodRules.{is_rpc}
use Rattle.exchangeable_types.specs.declared.cells.Cells.{Cells}
use Rattle.exchangeable_types.specs.declared.cells.Cells.TheVariants.{TooMany}

-- the rows of the structs of a part, each with at most 512 cells
pub record KnowsRows (lines : Lines) (rows : List StructRow) : Type 0 where
  pub are : AreStructRows lines (structs_of lines) rows
  pub small : (k : ℕ) (row : StructRow) → slice_get rows k ≡ Some row → length row.flat ≤ 512

abbrev pub is_own : Kind → Bool
is_own (kind.Own held) = true
is_own _ = false

-- whether one of the kinds that the types flatten to is an RRef
pub record Moves (lines : Lines) (types : List TypeText) (answer : Bool) : Type 0 where
  pub kinds : List Kind
  pub flat : Flattens lines types kinds
  pub own : list_any is_own kinds ≡ answer

-- the types flatten to more kinds than the limit
pub record Exceeds (lines : Lines) (types : List TypeText) (limit : ℕ) : Type 0 where
  pub kinds : List Kind
  pub flat : Flattens lines types kinds
  pub many : limit < length kinds

-- whether there are more than 8 parameters or 4 results
abbrev pub IsExceeding : Lines → List TypeText → List TypeText → Bool → Type 0
IsExceeding lines params results true = Exceeds lines params 8 ⊎ Exceeds lines results 4
IsExceeding lines params results false = Exceeds lines params 8 ⊎ Exceeds lines results 4 → ⊥

-- whether a marked method moves an object
abbrev pub IsMovedAgain : Lines → Bool → List TypeText → Bool → Type 0
IsMovedAgain lines marked types true = IsTrue marked × Moves lines types true
IsMovedAgain lines marked types false = IsTrue marked × Moves lines types true → ⊥

-- which of the rules 20 to 23 fail at a method that is marked or not
abbrev pub FailsMethod : Lines → Bool → List Param → ResultText → ℕ → Type 0
FailsMethod lines marked params outcome rule = ((rule ≡ 20) × (is_rpc outcome ≡ false)) ⊎ (((rule ≡ 21) × IsTrue (list_any (λ ty. is_lent ty.base) (result_types outcome))) ⊎ (((rule ≡ 22) × (IsTrue marked × Moves lines (param_types params) true)) ⊎ ((rule ≡ 23) × (Exceeds lines (param_types params) 8 ⊎ Exceeds lines (result_types outcome) 4))))

-- no rule fails, or the lowest that does
abbrev pub IsLowest : Lines → Bool → List Param → ResultText → Option ℕ → Type 0
IsLowest lines marked params outcome None = (r : ℕ) → FailsMethod lines marked params outcome r → ⊥
IsLowest lines marked params outcome (Some rule) = FailsMethod lines marked params outcome rule × ((r : ℕ) → FailsMethod lines marked params outcome r → rule ≤ r)

abbrev pub is_many : Cells → Bool
is_many TooMany = true
is_many _ = false
