-- A part stands for one value of its types. The ghost field of the type is a proposition.
use Rattle.std.proofs.Common.{◌≡◌, ℕ, ◌≤◌, List, length, Some, ap, subst}
use Rattle.std.specs.Prelude.{slice_get}
use Rattle.std.specs.Coded.{le_prop}
use Rattle.rl_defs.specs.declared.idl.Idl.{Idl}
use Rattle.rl_defs.specs.declared.tables.StructRow.{StructRow}
use Rattle.rl_defs.specs.TypeRules.{StructRows}
use Rattle.rl_defs.proofs.FlatteningLaws.{struct_rows_once}
use Rattle.exchangeable_types.specs.declared.check.Types.{Types}

abbrev Small : List StructRow → Type 0
Small rows = (k : ℕ) (row : StructRow) → slice_get rows k ≡ Some row → length row.flat ≤ 512

abbrev types : (rows : List StructRow) → Small rows → Types
types rows small = record { structs = rows; small = small }

same_small : (rows : List StructRow) (x y : Small rows) → x ≡ y
same_small rows x y = λ i k row h. le_prop (x k row h) (y k row h) i

same_rows : (rows others : List StructRow) (x : Small rows) → rows ≡ others → (y : Small others) → types rows x ≡ types others y
same_rows rows others x e = subst (λ (zs : List StructRow). (y : Small zs) → types rows x ≡ types zs y) e (λ y. ap (types rows) (same_small rows x y))

pub types_once : (idl : Idl) (a b : Types) → StructRows idl a.structs → StructRows idl b.structs → a ≡ b
types_once idl a b h g = same_rows a.structs b.structs a.small (struct_rows_once idl a.structs b.structs h g) b.small
