-- Which structs a struct holds by fields outside RRef, and which of them hold an RRef.
use Rattle.std.specs.Prelude.{◌≡◌, ℕ, ◌⊎◌, Bool, true, false, List, [], ◌∷◌, Some, slice_get, IsTrue, ◌&&◌, not}
use Rattle.rl_defs.specs.declared.idl.Base.{Base}
use Rattle.rl_defs.specs.declared.idl.Base.TheVariants as base
use Rattle.rl_defs.specs.declared.idl.TypeText.{TypeText}
use Rattle.rl_defs.specs.Interfaces.{Lines, types_at}
use Rattle.rl_defs.specs.Flattening.{struct_held, is_refused}

-- a field of struct s holds struct t by value
pub record HasField (lines : Lines) (s t : ℕ) : Type 0 where
  pub place : ℕ
  pub ty : TypeText
  pub here : slice_get (types_at lines s) place ≡ Some ty
  pub holds : struct_held lines ty ≡ Some t

-- one field or more lead from s to t, through these structs
abbrev pub FieldsLead : Lines → ℕ → List ℕ → ℕ → Type 0
FieldsLead lines s [] t = HasField lines s t
FieldsLead lines s (u ∷ us) t = HasField lines s u × FieldsLead lines u us t

abbrev pub Reaches : Lines → ℕ → ℕ → Type 0
Reaches lines s t = (us : List ℕ) × FieldsLead lines s us t

-- s reaches a struct that holds itself
abbrev pub IsEndless : Lines → ℕ → Type 0
IsEndless lines s = (t : ℕ) × Reaches lines s t × Reaches lines t t

abbrev pub is_rref : Base → Bool
is_rref (base.RRef name) = true
is_rref _ = false

-- the type is an RRef, or arrays of one
abbrev pub holds_rref : TypeText → Bool
holds_rref ty = not (is_refused ty) && is_rref ty.base

-- a field of s is an RRef
pub record HasRRef (lines : Lines) (s : ℕ) : Type 0 where
  pub place : ℕ
  pub ty : TypeText
  pub here : slice_get (types_at lines s) place ≡ Some ty
  pub rref : IsTrue (holds_rref ty)

-- a field of s, or of a struct that s reaches by fields outside RRef, is an RRef
abbrev pub HoldsRRef : Lines → ℕ → Type 0
HoldsRRef lines s = HasRRef lines s ⊎ ((t : ℕ) × Reaches lines s t × HasRRef lines t)
