-- What a search for an RRef of a struct that holds an RRef knows.
use Rattle.std.specs.Prelude.{◌≡◌, ℕ, ◌+◌, ◌*◌, ◌<◌, ◌≤◌, ◌⊎◌, Bool, true, false, List, [], ◌∷◌, Some, slice_get, length}
use Rattle.rl_defs.specs.declared.idl.TypeText.{TypeText}
use Rattle.rl_defs.specs.declared.tables.Kind.{Kind}
use Rattle.rl_defs.specs.Interfaces.{Lines, types_at, struct_names}
use Rattle.rl_defs.specs.Flattening.{kind_held}
use Rattle.rl_defs.specs.Holding.{HasField}
use Rattle.exchangeable_types.specs.Search.{StandsIn, Searching, unmarked_count}
use Rattle.exchangeable_types.specs.Rows.{NestedCell}

-- the type is an RRef of a struct that holds an RRef
pub record Nesting (lines : Lines) (ty : TypeText) : Type 0 where
  pub kind : Kind
  pub held : kind_held lines ty ≡ Some kind
  pub nested : NestedCell lines (kind ∷ [])

-- whether a type is; where it isn't, all that was seen is clean
abbrev pub IsNesting : Lines → TypeText → List Bool → Bool → Type 0
IsNesting lines ty seen true = Nesting lines ty
IsNesting lines ty seen false = Searching lines seen [] × (Nesting lines ty → ⊥)

-- a field of the struct is one
pub record HasNesting (lines : Lines) (s : ℕ) : Type 0 where
  pub place : ℕ
  pub ty : TypeText
  pub here : slice_get (types_at lines s) place ≡ Some ty
  pub nesting : Nesting lines ty

-- no field of the struct is one, and the structs that they hold were passed
pub record IsFree (lines : Lines) (passed : List Bool) (s : ℕ) : Type 0 where
  pub none : HasNesting lines s → ⊥
  pub closed : (t : ℕ) → HasField lines s t → slice_get passed t ≡ Some true

-- a struct that was passed is free, or is still to be looked at
pub record Passing (lines : Lines) (passed : List Bool) (waiting : List ℕ) : Type 0 where
  pub count : length passed ≡ length (struct_names lines)
  pub free : (s : ℕ) → slice_get passed s ≡ Some true → StandsIn waiting s ⊎ IsFree lines passed s
  pub below : (s : ℕ) → StandsIn waiting s → s < length passed

-- the fields of a struct were looked at, and none is one
pub record Passed (lines : Lines) (old new : List Bool) (waiting after : List ℕ) : Type 0 where
  pub passing : Passing lines new after
  pub stays : (s : ℕ) → slice_get old s ≡ Some true → slice_get new s ≡ Some true
  pub falls : 2 * unmarked_count new + length after ≤ 2 * unmarked_count old + length waiting

-- where a field may be one, nothing is said
abbrev pub IsPass : Lines → List Bool → List Bool → List Bool → List ℕ → List ℕ → Bool → Type 0
IsPass lines seen old new waiting after true = Unit {0}
IsPass lines seen old new waiting after false = Searching lines seen [] × Passed lines old new waiting after

-- none of the structs that this one reaches has such a field
pub record IsPassed (lines : Lines) (seen passed : List Bool) (first : ℕ) : Type 0 where
  pub searching : Searching lines seen []
  pub passing : Passing lines passed []
  pub here : slice_get passed first ≡ Some true

abbrev pub MayNest : Lines → List Bool → List Bool → ℕ → Bool → Type 0
MayNest lines seen passed first true = Unit {0}
MayNest lines seen passed first false = IsPassed lines seen passed first

-- whether a cell is one; where none is, all that was seen is clean, and all that was passed is free
abbrev pub IsNestAnswer : Lines → List Kind → List Bool → List Bool → Bool → Type 0
IsNestAnswer lines kinds seen passed true = NestedCell lines kinds
IsNestAnswer lines kinds seen passed false = Searching lines seen [] × Passing lines passed [] × (NestedCell lines kinds → ⊥)
