-- What the registers of a code frame hold of the frame's own.
use Rattle.std.specs.Prelude.{◌≡◌, ℕ, Bool, true, false, List, [], ◌∷◌, ◌&&◌, Some, None}
use Rattle.std.specs.List.{slice_index_or}
use Rattle.rl_defs.specs.declared.values.Value.TheVariants as value
use Rattle.machine_defs.specs.declared.values.Arg.{Arg}
use Rattle.machine_defs.specs.declared.values.Arg.TheVariants as arg
use Rattle.rl_defs.specs.declared.code.RegKind.TheVariants as held
use Rattle.rl_defs.specs.declared.tables.Kind.{Kind}
use Rattle.rl_defs.specs.declared.tables.Kind.TheVariants as kind
use Rattle.machine_defs.specs.declared.frame.FrameBody.TheVariants as body
use Rattle.machine_defs.specs.declared.frame.Action.{Action}
use Rattle.machine_defs.specs.declared.frame.Action.TheVariants as action
use Rattle.machine_defs.specs.declared.frame.Answer.{Answer}
use Rattle.machine_defs.specs.declared.frame.Answer.TheVariants as answer
use Rattle.rl_defs.specs.CodeKinds.{Kinds}
use Rattle.rl_defs.specs.Registers.{Typing}
use Rattle.rl_defs.specs.Registers.{Registers}
use Rattle.machine_defs.specs.Arguments.{has, moved_of, lent_of}
use Rattle.machine_defs.specs.Arguments.{objects_in}
use Rattle.machine_defs.specs.Sound.{own_of_body}

-- the objects in registers that weren't lent to their frame
abbrev pub own : List ℕ → Registers → List ℕ
own lent regs = own_of_body lent (body.Code 0 regs)

-- what registers known to hold own objects have isn't lent to the frame, and what those known to
-- hold lent ones have is
pub record Parted (loans : List ℕ) (kinds : Kinds) (regs : Registers) : Type 0 where
  pub own : (r ty o : ℕ) → slice_index_or kinds r held.Empty ≡ held.Own ty → slice_index_or regs r None ≡ Some (value.Obj o) → has loans o ≡ false
  pub lent : (r ty o : ℕ) → slice_index_or kinds r held.Empty ≡ held.Lent ty → slice_index_or regs r None ≡ Some (value.Obj o) → has loans o ≡ true

-- no method lends its result
abbrev pub is_lent_kind : Kind → Bool
is_lent_kind (kind.Lent s) = true
is_lent_kind _ = false

-- an argument is moved where its parameter is an `RRef`, and lent where that is a lent one
abbrev pub is_passed_as : Kind → Arg → Bool
is_passed_as (kind.Own s) (arg.Lent o) = false
is_passed_as (kind.Lent s) (arg.Moved o) = false
is_passed_as k a = true

abbrev pub all_pass_as : List Kind → List Arg → Bool
all_pass_as (k ∷ kinds) (a ∷ args) = is_passed_as k a && all_pass_as kinds args
all_pass_as _ _ = true

-- the objects that an action gives away; those that have to be its frame's own, and stay so; and
-- those that have to be its own or lent to it
abbrev pub given_away : Action → List ℕ
given_away (action.Drop o) = o ∷ []
given_away (action.Put slot o) = o ∷ []
given_away (action.Hang q place o) = o ∷ []
given_away (action.Call x m args) = moved_of args
given_away (action.Ret results) = objects_in results
given_away _ = []

abbrev pub used : Action → List ℕ
used (action.Set o place values) = o ∷ []
used (action.DevGet o block) = o ∷ []
used (action.Hang q place o) = q ∷ []
used (action.Unhang q place) = q ∷ []
used _ = []

abbrev pub shown : Action → List ℕ
shown (action.DevPut block o) = o ∷ []
shown (action.Call x m args) = lent_of args
shown _ = []

-- the objects that an answer brings
abbrev pub received : Answer → List ℕ
received (answer.Made o) = o ∷ []
received (answer.Back values) = objects_in values
received _ = []

-- two typings agree on the targets, and on the objects that registers hold
pub record Retyped (types other : Typing) (regs : Registers) : Type 0 where
  pub objects : (r o : ℕ) → slice_index_or regs r None ≡ Some (value.Obj o) → other.struct_of o ≡ types.struct_of o
  pub targets : (x : ℕ) → other.trait_of x ≡ types.trait_of x
