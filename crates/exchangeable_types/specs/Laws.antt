-- What holds of the rows of structs.
use Rattle.std.specs.Prelude.{◌≡◌, List}
use Rattle.rl_defs.specs.declared.idl.Idl.{Idl}
use Rattle.rl_defs.specs.declared.tables.StructRow.{StructRow}
use Rattle.rl_defs.specs.TypeRules.{StructRows}
use Rattle.exchangeable_types.specs.declared.check.Types.{Types}

-- a part stands for one list of struct rows at most
abbrev pub OneStructRows : Type 0
OneStructRows = (idl : Idl) (a b : List StructRow) → StructRows idl a → StructRows idl b → a ≡ b

-- a part stands for one value of its types at most
abbrev pub OneTypes : Type 0
OneTypes = (idl : Idl) (a b : Types) → StructRows idl a.structs → StructRows idl b.structs → a ≡ b
