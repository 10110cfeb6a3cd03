-- What the calls of an instance were given and answered, and what it does in them.
use Rattle.std.specs.Prelude.{ℕ, ◌+◌, ◌==◌, ◌&&◌, not, Bool, false, true, List, [], ◌∷◌, unwrap_or, if◌then◌else◌}
use Rattle.std.specs.List.{slice_index_or, list_any}
use Rattle.rl_defs.specs.declared.values.Value.{Value}
use Rattle.rl_defs.specs.declared.values.Value.TheVariants as value
use Rattle.machine_defs.specs.declared.values.Arg.{Arg}
use Rattle.machine_defs.specs.declared.values.Arg.TheVariants as arg
use Rattle.machine_defs.specs.declared.values.Cause.{Cause}
use Rattle.machine_defs.specs.declared.values.Cause.TheVariants as cause
use Rattle.machine_defs.specs.declared.entry.Entry.{Entry}
use Rattle.machine_defs.specs.declared.entry.Entry.TheVariants as entry
use Rattle.rl_defs.specs.declared.load.LoadRows.{LoadRows}
use Rattle.rl_defs.specs.declared.code.DomainLine.{DomainLine}
use Rattle.rl_defs.specs.declared.code.DomainLine.TheVariants as line
use Rattle.rl_defs.specs.declared.code.Native.{Native}
use Rattle.rl_defs.specs.declared.code.Native.TheVariants as native
use Rattle.rl_defs.specs.CodeNames.{import_number}
use Rattle.rl_defs.specs.NativeShapes.{import_of}
use Rattle.rl_defs.specs.Rows.{domain_of_load, binds}
use Rattle.machine_defs.specs.Arguments.{object_of_value}
use Rattle.machine_defs.specs.Entries.{thread_of}
use Rattle.machine_defs.specs.Steps.{Turn}
use Rattle.machine_defs.specs.History.{OpenCall, open_calls}

-- The number at a place of arguments and of results, and the object there; 0 where there is none.
abbrev pub number_of_arg : Arg → ℕ
number_of_arg (arg.Num n) = n
number_of_arg _ = 0

abbrev pub object_of_arg : Arg → ℕ
object_of_arg (arg.Moved o) = o
object_of_arg (arg.Lent o) = o
object_of_arg _ = 0

abbrev pub number_at : List Arg → ℕ → ℕ
number_at args k = number_of_arg (slice_index_or args k (arg.Num 0))

abbrev pub object_at : List Arg → ℕ → ℕ
object_at args k = object_of_arg (slice_index_or args k (arg.Num 0))

abbrev pub number_of_value : Value → ℕ
number_of_value (value.Num n) = n
number_of_value _ = 0

abbrev pub result_at : List Value → ℕ → ℕ
result_at results k = number_of_value (slice_index_or results k (value.Num 0))

abbrev pub object_result_at : List Value → ℕ → ℕ
object_result_at results k = unwrap_or (object_of_value (slice_index_or results k (value.Num 0))) 0

-- the turns before the call with this number was made
abbrev pub makes_call : ℕ → Entry → Bool
makes_call c (entry.Call t d x i m args) = d == c
makes_call c _ = false

abbrev pub before_call : ℕ → List Turn → List Turn
before_call c [] = []
before_call c (u ∷ us) = if makes_call c u.entry then us else before_call c us

-- a domain line that names this native body
abbrev pub same_body : Native → Native → Bool
same_body native.Fs native.Fs = true
same_body native.Rv6 native.Rv6 = true
same_body _ _ = false

abbrev pub is_body : Native → DomainLine → Bool
is_body body (line.Native other) = same_body body other
is_body body _ = false

-- Whether an instance runs this body. No shadow stands for a load with one, so such a load has one
-- instance, whose number is the load's.
abbrev pub runs : LoadRows → Native → ℕ → Bool
runs L body i = list_any (λ l. is_body body l.form) (domain_of_load L i).lines

-- the target that is bound to the import of its body
abbrev pub import_target : LoadRows → Native → ℕ → ℕ
import_target L body i =
    slice_index_or (binds L i) (import_number (domain_of_load L i) (import_of body)) 0

-- the newest of a thread's open calls is in the instance
abbrev pub newest_is_in : ℕ → List OpenCall → Bool
newest_is_in i [] = false
newest_is_in i (c ∷ cs) = c.inside == i

-- the newest is a call on this target that the instance made and waits for
abbrev pub asks : ℕ → ℕ → List OpenCall → Bool
asks i x [] = false
asks i x (c ∷ cs) = (c.target == x) && newest_is_in i cs

-- Who acts in an entry: the instance in which the newest open call of its thread is. What a call
-- that ended comes to, a `reload`, an `again` or an `unwound`, is no action, and neither is the trap
-- for want of fuel.
abbrev pub is_fuel : Cause → Bool
is_fuel cause.Fuel = true
is_fuel _ = false

abbrev pub is_action : Entry → Bool
is_action (entry.Reload t x i left) = false
is_action (entry.Again t c x i) = false
is_action (entry.Unwound t c) = false
is_action (entry.Trap t i cause) = not (is_fuel cause)
is_action _ = true

abbrev pub acts : List Turn → ℕ → Entry → Bool
acts us i e = is_action e && newest_is_in i (open_calls us (thread_of e))

-- a call enters the instance
abbrev pub calls_into : ℕ → Entry → Bool
calls_into i (entry.Call t c x j m args) = j == i
calls_into i _ = false

-- how many actions the instance has made since a call last entered it
abbrev pub actions_in_call : List Turn → ℕ → ℕ
actions_in_call [] i = 0
actions_in_call (u ∷ us) i =
    if calls_into i u.entry then 0
    else if acts us i u.entry then actions_in_call us i + 1
    else actions_in_call us i

-- what the turns since then add to a list, the newest first
abbrev pub since_entered : {A : Type 0} → (List Turn → Entry → List A → List A) → List Turn → ℕ → List A
since_entered adds [] i = []
since_entered adds (u ∷ us) i = if calls_into i u.entry then [] else adds us u.entry (since_entered adds us i)
