-- The actions that a native frame may choose: these fit, one record for each, and no others.
use Rattle.std.specs.Prelude.{◌≡◌, ℕ, ◌+◌, ◌^◌, ◌<◌, ◌≤◌, ◌==◌, ◌&&◌, ◌||◌, [], ◌∷◌, length, Some, Bool, false, true, List, not, slice_get, drop, filter}
use Rattle.std.specs.List.{list_all, filter_map}
use Rattle.machine_defs.specs.declared.values.Arg.TheVariants as arg
use Rattle.rl_defs.specs.declared.tables.Kind.TheVariants as kind
use Rattle.rl_defs.specs.declared.values.Value.TheVariants as value
use Rattle.machine_defs.specs.declared.values.Cause.TheVariants as cause
use Rattle.machine_defs.specs.declared.frame.Action.TheVariants as action
use Rattle.rl_defs.specs.declared.load.LoadRows.{LoadRows}
use Rattle.machine_defs.specs.declared.values.Arg.{Arg}
use Rattle.rl_defs.specs.declared.tables.Kind.{Kind}
use Rattle.rl_defs.specs.declared.values.Value.{Value}
use Rattle.rl_defs.specs.declared.tables.StructRow.{StructRow}
use Rattle.rl_defs.specs.declared.tables.MethodRow.{MethodRow}
use Rattle.machine_defs.specs.declared.frame.Action.{Action}
use Rattle.machine_defs.specs.State.{State, StackFrame, instance_load}
use Rattle.rl_defs.specs.Registers.{Typing}
use Rattle.machine_defs.specs.Loans.{object_of, count}
use Rattle.rl_defs.specs.Rows.{binds}
use Rattle.rl_defs.specs.Widths.{fits_width, numbers_suit}
use Rattle.machine_defs.specs.Arguments.{has, moved_of, lent_of, object_of_value}
use Rattle.machine_defs.specs.Objects.{kinds_of}
use Rattle.machine_defs.specs.Seen.{words, types_of}
use Rattle.rl_defs.specs.Domains.{method_of}

-- an argument is of its parameter's kind, and a number within its width
abbrev pub arg_suits : Typing → Kind → Arg → Bool
arg_suits types (kind.Num w) (arg.Num n) = fits_width w n
arg_suits types (kind.Own ty) (arg.Moved o) = types.struct_of o == ty
arg_suits types (kind.Lent ty) (arg.Lent o) = types.struct_of o == ty
arg_suits types (kind.Cap t) (arg.Cap x) = types.trait_of x == t
arg_suits types _ _ = false

-- each item fits the kind at its place, and there are as many of both
abbrev pub each_fits : {A : Type 0} → (Kind → A → Bool) → List Kind → List A → Bool
each_fits fits [] [] = true
each_fits fits (k ∷ kinds) (a ∷ items) = fits k a && each_fits fits kinds items
each_fits fits _ _ = false

abbrev pub args_suit : Typing → List Kind → List Arg → Bool
args_suit types kinds args = each_fits (arg_suits types) kinds args

-- so is a value of a result's
abbrev pub value_suits : Typing → Kind → Value → Bool
value_suits types (kind.Num w) (value.Num n) = fits_width w n
value_suits types (kind.Own ty) (value.Obj o) = types.struct_of o == ty
value_suits types (kind.Cap t) (value.Cap x) = types.trait_of x == t
value_suits types _ _ = false

abbrev pub values_suit : Typing → List Kind → List Value → Bool
values_suit types kinds values = each_fits (value_suits types) kinds values

abbrev pub is_number : Kind → Bool
is_number (kind.Num w) = true
is_number _ = false

abbrev pub is_object : Kind → Bool
is_object (kind.Own ty) = true
is_object _ = false

-- no number stands twice
abbrev pub are_distinct : List ℕ → Bool
are_distinct [] = true
are_distinct (o ∷ os) = not (has os o) && are_distinct os

-- `new`: the struct's cells are all numbers, and there is room for one more object
pub record CanMake (L : LoadRows) (held : List ℕ) (ty : ℕ) : Type 0 where
  pub struct : StructRow
  pub row : slice_get L.tables.structs ty ≡ Some struct
  pub numbers : list_all is_number struct.flat ≡ true
  pub room : length held < 8

-- `set`: one number cell or more of a held object, from a place on, each to a number within its
-- width
pub record CanSet (L : LoadRows) (s : State) (held : List ℕ) (o at : ℕ) (values : List ℕ) : Type 0 where
  pub holds : has held o ≡ true
  pub some : 0 < length values
  pub suits : numbers_suit (drop at (kinds_of L (object_of s o))) values ≡ true

-- `wput`: a word of the instance
pub record CanPutWord (s : State) (f : StackFrame) (at v : ℕ) : Type 0 where
  pub inside : at < length (words s f.instance)
  pub width : v < 2 ^ 64

-- `call`: a method of a target that is bound to an import. What it moves is held, what it lends is
-- held or lent to the frame; nothing is moved twice, or moved and lent; and there is room for the
-- results
pub record CanCall (L : LoadRows) (s : State) (f : StackFrame) (held : List ℕ) (x m : ℕ) (args : List Arg) : Type 0 where
  pub import : ℕ
  pub bound : slice_get (binds L (instance_load s f.instance)) import ≡ Some x
  pub method : MethodRow
  pub row : method_of L x m ≡ Some method
  pub suits : args_suit (types_of L s) method.params args ≡ true
  pub moves : list_all (has held) (moved_of args) ≡ true
  pub lends : list_all (λ o. has held o || has f.lent o) (lent_of args) ≡ true
  pub once : are_distinct (moved_of args) ≡ true
  pub apart : list_all (λ o. not (has (moved_of args) o)) (lent_of args) ≡ true
  pub room : length (filter (λ o. not (has (moved_of args) o)) held) + length (filter is_object method.results) ≤ 8

-- `ret`: results of the method's kinds, whose objects are all the held ones, each once
pub record CanReturn (L : LoadRows) (s : State) (f : StackFrame) (held : List ℕ) (results : List Value) : Type 0 where
  pub method : MethodRow
  pub row : method_of L f.target f.method ≡ Some method
  pub suits : values_suit (types_of L s) method.results results ≡ true
  pub all : (o : ℕ) → count o (filter_map object_of_value results) ≡ count o held

-- `trap` is by `io` alone, `drop` of a held object; natives have no other action
abbrev pub CanChoose : LoadRows → State → StackFrame → List ℕ → Action → Type 0
CanChoose L s f held (action.Trap c) = c ≡ cause.Io
CanChoose L s f held (action.New ty) = CanMake L held ty
CanChoose L s f held (action.Drop o) = has held o ≡ true
CanChoose L s f held (action.Set o at values) = CanSet L s held o at values
CanChoose L s f held (action.Wput at v) = CanPutWord s f at v
CanChoose L s f held (action.Call x m args) = CanCall L s f held x m args
CanChoose L s f held (action.Ret results) = CanReturn L s f held results
CanChoose L s f held _ = ⊥
