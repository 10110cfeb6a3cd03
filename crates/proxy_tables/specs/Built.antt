-- The rows of methods and traits, as they are built.
use Rattle.std.specs.Prelude.{◌≡◌, ℕ, Bool, List, ◌++◌, Some, slice_get, drop}
use Rattle.rl_defs.specs.declared.idl.IdlLine.TheVariants as form
use Rattle.rl_defs.specs.declared.idl.Param.{Param}
use Rattle.rl_defs.specs.declared.idl.ResultText.{ResultText}
use Rattle.rl_defs.specs.declared.tables.MethodRow.{MethodRow}
use Rattle.rl_defs.specs.declared.tables.TraitRow.{TraitRow}
use Rattle.rl_defs.specs.Interfaces.{Lines, MethodText, TraitText, methods_of, traits_of, param_types, result_types}
use Rattle.rl_defs.specs.MethodRules.{AreMethodRows, AreTraitRows}
use Rattle.proxy_tables.specs.Rules.{Exceeds}

-- no method has more than 8 parameters or 4 results after flattening
pub record AllFit (lines : Lines) : Type 0 where
  pub params : (k n : ℕ) (name : List ℕ) (params : List Param) (outcome : ResultText) → slice_get lines k ≡ Some (record { line = n; form = form.Method name params outcome }) → Exceeds lines (param_types params) 8 → ⊥
  pub results : (k n : ℕ) (name : List ℕ) (params : List Param) (outcome : ResultText) → slice_get lines k ≡ Some (record { line = n; form = form.Method name params outcome }) → Exceeds lines (result_types outcome) 4 → ⊥

-- the rows of the methods that were passed
pub record MethodsTo (lines : Lines) (all : List MethodText) (rows : List MethodRow) (at : ℕ) (marked : Bool) : Type 0 where
  pub passed : List MethodText
  pub split : all ≡ passed ++ methods_of (drop at lines) marked
  pub are : AreMethodRows lines passed rows

-- the rows of the traits that were passed
pub record TraitsTo (lines : Lines) (rows : List TraitRow) (at : ℕ) : Type 0 where
  pub passed : List TraitText
  pub split : traits_of lines ≡ passed ++ traits_of (drop at lines)
  pub are : AreTraitRows lines passed rows
