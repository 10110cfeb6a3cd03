-- Rules 20 to 23: the methods that a proxy can stand for.
use Rattle.std.specs.Prelude.{◌≡◌, ℕ, ◌+◌, ◌<◌, ◌⊎◌, Bool, true, false, List, [], ◌∷◌, Some, slice_get, length, IsTrue}
use Rattle.std.specs.List.{list_any}
use Rattle.rl_defs.specs.declared.idl.Idl.{Idl}
use Rattle.rl_defs.specs.declared.idl.IdlLine.TheVariants as form
use Rattle.rl_defs.specs.declared.idl.Param.{Param}
use Rattle.rl_defs.specs.declared.idl.ResultText.{ResultText}
use Rattle.rl_defs.specs.declared.idl.ResultText.TheVariants as results
use Rattle.rl_defs.specs.declared.tables.Kind.{Kind}
use Rattle.rl_defs.specs.declared.tables.Kind.TheVariants as kind
use Rattle.rl_defs.specs.declared.tables.MethodRow.{MethodRow}
use Rattle.rl_defs.specs.declared.tables.TraitRow.{TraitRow}
use Rattle.rl_defs.specs.declared.tables.Tables.{Tables}
use Rattle.rl_defs.specs.Refusals.{Failing, HasLine}
use Rattle.rl_defs.specs.Interfaces.{Lines, MethodText, TraitText, traits_of, structs_of, param_types, result_types}
use Rattle.rl_defs.specs.Flattening.{Flattens}
use Rattle.rl_defs.specs.TypeRules.{is_lent, AreStructRows}

-- the line of this number is a method with these parameters and this result
pub record MethodAt (lines : Lines) (n : ℕ) : Type 0 where
  pub name : List ℕ
  pub params : List Param
  pub result : ResultText
  pub here : HasLine lines n (form.Method name params result)

abbrev pub is_rpc : ResultText → Bool
is_rpc (results.Rpc types) = true
is_rpc _ = false

-- rule 20: the method's result isn't an `RpcResult`
pub record NoRpcResult (lines : Lines) (n : ℕ) : Type 0 where
  pub method : MethodAt lines n
  pub plain : is_rpc method.result ≡ false

-- rule 21: the method's result holds a lent object or an interface
pub record LendsResult (lines : Lines) (n : ℕ) : Type 0 where
  pub method : MethodAt lines n
  pub lent : IsTrue (list_any (λ ty. is_lent ty.base) (result_types method.result))

-- rule 22: the line before marks the method as idempotent, and a kind of its parameters is an RRef
pub record MovesWhenIssuedAgain (lines : Lines) (n : ℕ) : Type 0 where
  pub method : MethodAt lines n
  pub mark : ℕ
  pub before : mark + 1 ≡ method.here.place
  pub marks : ℕ
  pub marked : slice_get lines mark ≡ Some (record { line = marks; form = form.Idempotent })
  pub kinds : List Kind
  pub flat : Flattens lines (param_types method.params) kinds
  pub place : ℕ
  pub held : ℕ
  pub moved : slice_get kinds place ≡ Some (kind.Own held)

-- rule 23: more than 8 parameters after flattening
pub record HasTooManyParams (lines : Lines) (n : ℕ) : Type 0 where
  pub method : MethodAt lines n
  pub kinds : List Kind
  pub flat : Flattens lines (param_types method.params) kinds
  pub many : 8 < length kinds

-- rule 23: more than 4 results after flattening
pub record HasTooManyResults (lines : Lines) (n : ℕ) : Type 0 where
  pub method : MethodAt lines n
  pub kinds : List Kind
  pub flat : Flattens lines (result_types method.result) kinds
  pub many : 4 < length kinds

-- which of the rules 20 to 23 fail at which lines
abbrev pub FailsMethods : Idl → Failing
FailsMethods idl n rule =
    ((rule ≡ 20) × NoRpcResult idl.lines n)
    ⊎ (((rule ≡ 21) × LendsResult idl.lines n)
    ⊎ (((rule ≡ 22) × MovesWhenIssuedAgain idl.lines n)
    ⊎ ((rule ≡ 23) × (HasTooManyParams idl.lines n ⊎ HasTooManyResults idl.lines n))))

-- the row of a method: its name, whether it is marked, and what its parameters and results flatten to
pub record IsMethodRow (lines : Lines) (text : MethodText) (row : MethodRow) : Type 0 where
  pub name : row.name ≡ text.name
  pub idempotent : row.idempotent ≡ text.idempotent
  pub params : Flattens lines (param_types text.params) row.params
  pub results : Flattens lines (result_types text.result) row.results

abbrev pub AreMethodRows : Lines → List MethodText → List MethodRow → Type 0
AreMethodRows lines [] [] = Unit {0}
AreMethodRows lines (m ∷ ms) (r ∷ rs) = IsMethodRow lines m r × AreMethodRows lines ms rs
AreMethodRows lines _ _ = ⊥

pub record IsTraitRow (lines : Lines) (text : TraitText) (row : TraitRow) : Type 0 where
  pub name : row.name ≡ text.name
  pub methods : AreMethodRows lines text.methods row.methods

abbrev pub AreTraitRows : Lines → List TraitText → List TraitRow → Type 0
AreTraitRows lines [] [] = Unit {0}
AreTraitRows lines (t ∷ ts) (r ∷ rs) = IsTraitRow lines t r × AreTraitRows lines ts rs
AreTraitRows lines _ _ = ⊥

-- the rows of a part: its structs and its traits, each in the order of the text
pub record TableRows (idl : Idl) (tables : Tables) : Type 0 where
  pub structs : AreStructRows idl.lines (structs_of idl.lines) tables.structs
  pub traits : AreTraitRows idl.lines (traits_of idl.lines) tables.traits
