-- Rules 10 to 13: the types that may cross a domain boundary.
use Rattle.std.specs.Prelude.{◌≡◌, ℕ, ◌<◌, ◌≤◌, ◌⊎◌, Bool, true, false, ◌||◌, ◌&&◌, List, [], ◌∷◌, Some, slice_get, length, IsTrue}
use Rattle.std.specs.List.{list_any}
use Rattle.rl_defs.specs.declared.idl.Idl.{Idl}
use Rattle.rl_defs.specs.declared.idl.IdlLine.{IdlLine}
use Rattle.rl_defs.specs.declared.idl.IdlLine.TheVariants as form
use Rattle.rl_defs.specs.declared.idl.Wrap.{Wrap}
use Rattle.rl_defs.specs.declared.idl.Wrap.TheVariants as wrap
use Rattle.rl_defs.specs.declared.idl.Base.{Base}
use Rattle.rl_defs.specs.declared.idl.Base.TheVariants as base
use Rattle.rl_defs.specs.declared.idl.TypeText.{TypeText}
use Rattle.rl_defs.specs.declared.tables.Kind.{Kind}
use Rattle.rl_defs.specs.declared.tables.Kind.TheVariants as kind
use Rattle.rl_defs.specs.declared.tables.StructRow.{StructRow}
use Rattle.rl_defs.specs.Refusals.{Failing, HasLine}
use Rattle.rl_defs.specs.Interfaces.{Lines, StructText, structs_of, types_of, types_at, result_types}
use Rattle.rl_defs.specs.Flattening.{is_refused, Flattens}
use Rattle.rl_defs.specs.Holding.{IsEndless, HoldsRRef}

-- `&RRef<STRUCT>` or `&dyn TRAIT`
abbrev pub is_lent : Base → Bool
is_lent (base.LentRRef name) = true
is_lent (base.Dyn name) = true
is_lent _ = false

abbrev pub is_array : Wrap → Bool
is_array (wrap.Array n) = true
is_array _ = false

-- a field may hold no refused type, no `&RRef` and no `&dyn`
abbrev pub is_bad_field : TypeText → Bool
is_bad_field ty = is_refused ty || is_lent ty.base

-- a parameter or result may hold no refused type, and no array of `&RRef` or `&dyn`
abbrev pub is_bad_value : TypeText → Bool
is_bad_value ty = is_refused ty || (list_any is_array ty.wraps && is_lent ty.base)

abbrev pub has_bad_type : IdlLine → Bool
has_bad_type (form.Field name ty) = is_bad_field ty
has_bad_type (form.Method name params result) = list_any (λ p. is_bad_value p.ty) params || list_any is_bad_value (result_types result)
has_bad_type _ = false

-- the struct of this number begins at the line of this number
pub record StructAt (lines : Lines) (n s : ℕ) : Type 0 where
  pub text : StructText
  pub here : slice_get (structs_of lines) s ≡ Some text
  pub line : text.line ≡ n

-- rule 10: a field, parameter or result holds a type that may not cross, or a field or array holds a lent object or an interface
pub record HasBadType (lines : Lines) (n : ℕ) : Type 0 where
  pub line : IdlLine
  pub here : HasLine lines n line
  pub bad : IsTrue (has_bad_type line)

-- rule 11: by fields outside RRef the struct reaches one that holds itself
pub record HoldsItself (lines : Lines) (n : ℕ) : Type 0 where
  pub number : ℕ
  pub here : StructAt lines n number
  pub endless : IsEndless lines number

-- rule 12: the struct has more than 512 cells
pub record HasTooManyCells (lines : Lines) (n : ℕ) : Type 0 where
  pub number : ℕ
  pub here : StructAt lines n number
  pub ends : IsEndless lines number → ⊥
  pub cells : List Kind
  pub flat : Flattens lines (types_at lines number) cells
  pub many : 512 < length cells

-- rule 13: a cell of the struct is an RRef of a struct that holds an RRef itself
pub record HasNestedRRef (lines : Lines) (n : ℕ) : Type 0 where
  pub number : ℕ
  pub here : StructAt lines n number
  pub ends : IsEndless lines number → ⊥
  pub cells : List Kind
  pub flat : Flattens lines (types_at lines number) cells
  pub few : length cells ≤ 512
  pub place : ℕ
  pub held : ℕ
  pub cell : slice_get cells place ≡ Some (kind.Own held)
  pub nested : HoldsRRef lines held

-- which of the rules 10 to 13 fail at which lines
abbrev pub FailsTypes : Idl → Failing
FailsTypes idl n rule =
    ((rule ≡ 10) × HasBadType idl.lines n)
    ⊎ (((rule ≡ 11) × HoldsItself idl.lines n)
    ⊎ (((rule ≡ 12) × HasTooManyCells idl.lines n)
    ⊎ ((rule ≡ 13) × HasNestedRRef idl.lines n)))

-- the row of a struct: its name, and what its fields flatten to
pub record IsStructRow (lines : Lines) (text : StructText) (row : StructRow) : Type 0 where
  pub name : row.name ≡ text.name
  pub flat : Flattens lines (types_of text.fields) row.flat

abbrev pub AreStructRows : Lines → List StructText → List StructRow → Type 0
AreStructRows lines [] [] = Unit {0}
AreStructRows lines (t ∷ ts) (r ∷ rs) = IsStructRow lines t r × AreStructRows lines ts rs
AreStructRows lines _ _ = ⊥

-- the rows of the structs of a part, in the order of the text
abbrev pub StructRows : Idl → List StructRow → Type 0
StructRows idl rows = AreStructRows idl.lines (structs_of idl.lines) rows
