-- What a type flattens to: numbers and references to one kind each, a struct to its fields in order, an array to its element so often.
use Rattle.std.specs.Prelude.{◌≡◌, ℕ, zero, suc, ◌*◌, Bool, true, false, ◌||◌, List, [], ◌∷◌, ◌++◌, Option, Some, None, if◌then◌else◌}
use Rattle.std.specs.Option.{option_to_list}
use Rattle.std.specs.List.{list_any}
use Rattle.rl_defs.specs.declared.tables.Kind.{Kind}
use Rattle.rl_defs.specs.declared.tables.Kind.TheVariants as kind
use Rattle.rl_defs.specs.declared.idl.Wrap.{Wrap}
use Rattle.rl_defs.specs.declared.idl.Wrap.TheVariants as wrap
use Rattle.rl_defs.specs.declared.idl.Base.{Base}
use Rattle.rl_defs.specs.declared.idl.Base.TheVariants as base
use Rattle.rl_defs.specs.declared.idl.TypeText.{TypeText}
use Rattle.rl_defs.specs.Interfaces.{Lines, types_at, struct_number, trait_number}

-- everything that a type may be wrapped in but an array
abbrev pub is_refused_wrap : Wrap → Bool
is_refused_wrap (wrap.Array n) = false
is_refused_wrap _ = true

abbrev pub is_refused_base : Base → Bool
is_refused_base base.String = true
is_refused_base base.Function = true
is_refused_base _ = false

-- The type holds one that may not cross a domain boundary: a box, a vector, a string, a reference or pointer of Rust, a function.
abbrev pub is_refused : TypeText → Bool
is_refused ty = list_any is_refused_wrap ty.wraps || is_refused_base ty.base

-- how often the arrays of a type repeat its base
abbrev pub times_of : List Wrap → ℕ
times_of [] = 1
times_of (wrap.Array n ∷ ws) = n * times_of ws
times_of (_ ∷ ws) = times_of ws

abbrev pub base_struct : Lines → Base → Option ℕ
base_struct lines (base.Struct name) = Some (struct_number lines name)
base_struct lines _ = None

abbrev pub unless_refused : {X : Type 0} → Bool → Option X → Option X
unless_refused refused found = if refused then None else found

-- the struct that a type holds by value, outside any RRef. Refused types aren't looked into.
abbrev pub struct_held : Lines → TypeText → Option ℕ
struct_held lines ty = unless_refused (is_refused ty) (base_struct lines ty.base)

abbrev pub base_kind : Lines → Base → Option Kind
base_kind lines (base.Num width) = Some (kind.Num width)
base_kind lines (base.RRef name) = Some (kind.Own (struct_number lines name))
base_kind lines (base.LentRRef name) = Some (kind.Lent (struct_number lines name))
base_kind lines (base.Dyn name) = Some (kind.Cap (trait_number lines name))
base_kind lines _ = None

-- the one kind that a type repeats, where it is no struct. A refused type flattens to nothing.
abbrev pub kind_held : Lines → TypeText → Option Kind
kind_held lines ty = unless_refused (is_refused ty) (base_kind lines ty.base)

-- so many times these kinds
abbrev pub copies : ℕ → List Kind → List Kind
copies zero kinds = []
copies (suc n) kinds = kinds ++ copies n kinds

-- What a list of types flattens to. A struct that holds itself flattens to nothing that is finite, so the relation then has no case.
pub data Flattens (lines : Lines) : List TypeText → List Kind → Type 0 where
  Ends : {types : List TypeText} {kinds : List Kind} → types ≡ [] → kinds ≡ [] → Flattens lines types kinds
  Plain : {types : List TypeText} {kinds : List Kind} (ty : TypeText) (rest : List TypeText) (more : List Kind) → types ≡ ty ∷ rest → struct_held lines ty ≡ None → Flattens lines rest more → kinds ≡ copies (times_of ty.wraps) (option_to_list (kind_held lines ty)) ++ more → Flattens lines types kinds
  Fields : {types : List TypeText} {kinds : List Kind} (ty : TypeText) (rest : List TypeText) (s : ℕ) (inner more : List Kind) → types ≡ ty ∷ rest → struct_held lines ty ≡ Some s → Flattens lines (types_at lines s) inner → Flattens lines rest more → kinds ≡ copies (times_of ty.wraps) inner ++ more → Flattens lines types kinds
