-- What holds of the tables of a part.
use Rattle.std.specs.Prelude.{◌≡◌, ℕ, ◌≤◌, Some, slice_get, length}
use Rattle.rl_defs.specs.declared.idl.Idl.{Idl}
use Rattle.rl_defs.specs.declared.tables.Tables.{Tables}
use Rattle.rl_defs.specs.declared.tables.TraitRow.{TraitRow}
use Rattle.rl_defs.specs.MethodRules.{TableRows}

-- a part stands for one value of its tables at most
abbrev pub OneTables : Type 0
OneTables = (idl : Idl) (a b : Tables) → TableRows idl a → TableRows idl b → a ≡ b

-- no trait has more methods than the part has lines
abbrev pub FewMethods : Type 0
FewMethods = (idl : Idl) (tables : Tables) (t : ℕ) (row : TraitRow) → TableRows idl tables → slice_get tables.traits t ≡ Some row → length row.methods ≤ length idl.lines
