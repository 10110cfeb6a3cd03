-- Arguments and values: what they move, lend and hold, and the registers that a call begins with.
use Rattle.std.specs.Prelude.{ℕ, ◌-◌, ◌==◌, ◌++◌, Option, Some, None, List, Bool, length, map, replicate}
use Rattle.std.specs.List.{filter_map, list_any}
use Rattle.machine_defs.specs.declared.values.Arg.TheVariants as arg
use Rattle.rl_defs.specs.declared.values.Value.TheVariants as value
use Rattle.machine_defs.specs.declared.values.Arg.{Arg}
use Rattle.rl_defs.specs.declared.values.Value.{Value}
use Rattle.rl_defs.specs.Registers.{Registers}

-- the objects that arguments move, and those that they lend
abbrev pub moved_by : Arg → Option ℕ
moved_by (arg.Moved o) = Some o
moved_by _ = None

abbrev pub moved_of : List Arg → List ℕ
moved_of args = filter_map moved_by args

abbrev pub lent_by : Arg → Option ℕ
lent_by (arg.Lent o) = Some o
lent_by _ = None

abbrev pub lent_of : List Arg → List ℕ
lent_of args = filter_map lent_by args

-- whether a number stands in a list
abbrev pub has : List ℕ → ℕ → Bool
has xs o = list_any (λ x. x == o) xs

-- the objects among values
abbrev pub object_of_value : Value → Option ℕ
object_of_value (value.Obj o) = Some o
object_of_value _ = None

-- The last receiver of an object: the owner that its `new` names, the instance that a call moving
-- it entered, who acts for the thread just behind a `ret` moving it, or who acts at its `unhang`.
abbrev pub objects_in : List Value → List ℕ
objects_in values = filter_map object_of_value values

-- the value that an argument puts into a register
abbrev pub value_of : Arg → Value
value_of (arg.Num n) = value.Num n
value_of (arg.Moved o) = value.Obj o
value_of (arg.Lent o) = value.Obj o
value_of (arg.Cap x) = value.Cap x

-- the arguments stand in the first registers
abbrev pub entry_registers : List Arg → Registers
entry_registers args = map (λ a. Some (value_of a)) args ++ replicate (32 - length args) None
