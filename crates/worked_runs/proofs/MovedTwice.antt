-- The object that goes through two domains and comes back, step by step.
use Rattle.std.proofs.Common.{ℕ, zero, suc, arith, List, [], ◌∷◌, refl, inl, Option, Some, None}
use Rattle.std.specs.Fmt.{digits}
use Rattle.rl_defs.specs.declared.values.Value.{Value}
use Rattle.rl_defs.specs.declared.values.Value.TheVariants as value
use Rattle.machine_defs.specs.declared.values.Arg.{Arg}
use Rattle.machine_defs.specs.declared.values.Arg.TheVariants as arg
use Rattle.machine_defs.specs.declared.values.Owner.TheVariants as owner
use Rattle.machine_defs.specs.declared.entry.Entry.TheVariants as entry
use Rattle.rl_defs.specs.declared.load.Command.TheVariants as command
use Rattle.machine_defs.specs.Runs.{AllDone}
use Rattle.machine_defs.specs.State.{State, StackFrame, Thread, start, with_thread}
use Rattle.machine_defs.specs.Objects.{with_new, without}
use Rattle.machine_defs.specs.Frames.{with_top}
use Rattle.machine_defs.specs.CallRows.{call_entered, after_return, command_done}
use Rattle.machine_defs.specs.ObjectRows.{without_name}
use Rattle.machine_defs.specs.Steps.{Step}
use Rattle.worked_runs.specs.Parts.{thread, frame_at, quiet}
use Rattle.worked_runs.specs.MovedTwice.{moved_load, moved_end, IsMovedTwice}
use Rattle.worked_runs.proofs.Turns.{none_yet, goes_on, worked}
use Rattle.worked_runs.proofs.Rows as rows

-- what the two script names hold
abbrev none : List (Option Value)
none = None ∷ None ∷ []

abbrev object : Value
object = value.Obj 1

abbrev its_number : List Arg
its_number = arg.Moved 1 ∷ []

-- before anything
abbrev before : State
before = start moved_load

abbrev script : Thread
script = thread 0 0 none

-- the object is made
abbrev made : State
made = with_new moved_load 0 (owner.Client 1) (7 ∷ []) (with_thread before 1 (command_done moved_load 1 (object ∷ []) script))

makes : Step moved_load before (quiet (entry.New 1 (owner.Client 1) 1 0 (7 ∷ []))) made
makes = rows.quietly refl
    (record { number = refl; makes = inl (record { next = command.Let 0 0 (7 ∷ []); gives = (refl, refl); mine = refl; does = record { thread = script; of = refl; wants = refl; becomes = refl } }) })
    refl refl

-- the client's call moves it into the second instance
abbrev handing : ℕ → List (Option Value) → StackFrame
handing at values = frame_at 1 2 2 0 its_number at values

abbrev called : State
called = call_entered 1 1 2 its_number (handing 3 (Some object ∷ [])) (with_thread made 1 (thread 9999 1 none))

calls : Step moved_load made (quiet (entry.Call 1 1 2 2 0 its_number)) called
calls = rows.enters _ 3 refl refl refl refl refl refl refl refl refl refl refl

-- and this one's call moves it into the first, behind `cap`, which cost 1
abbrev passed_on : State
passed_on = call_entered 1 2 1 its_number (frame_at 2 1 1 0 its_number 2 (Some object ∷ []))
    (with_top 1 (handing 4 (None ∷ Some (value.Cap 1) ∷ [])) (with_thread called 1 (thread 9997 1 none)))

passes : Step moved_load called (quiet (entry.Call 1 2 1 1 0 its_number)) passed_on
passes = rows.enters _ 2 refl refl refl refl refl refl refl refl refl refl refl

-- it comes back to the second
abbrev back : State
back = with_top 1 (handing 5 (Some object ∷ Some (value.Cap 1) ∷ [])) (after_return 1 9997 (thread 9997 1 none) (object ∷ []) passed_on)

comes_back : Step moved_load passed_on (quiet (entry.Ret 1 2 (object ∷ []))) back
comes_back =
    rows.returns (thread 9997 1 none) 9997 _ refl refl refl refl (record { frame = handing 5 (Some object ∷ Some (value.Cap 1) ∷ []); answers = refl; becomes = refl }) refl refl

-- and to the client, whose second name holds it now
abbrev bound : Thread
bound = thread 9995 2 (None ∷ Some object ∷ [])

abbrev home : State
home = with_thread (after_return 1 9996 (thread 9996 1 none) (object ∷ []) back) 1 bound

comes_home : Step moved_load back (quiet (entry.Ret 1 1 (object ∷ []))) home
comes_home =
    rows.returns (thread 9996 1 none) 9996 _ refl refl refl refl (record { thread = thread 9995 1 none; of = refl; becomes = refl }) refl refl

-- the client drops it
abbrev dropped : State
dropped = without (1 ∷ []) (with_thread home 1 (command_done moved_load 1 [] (without_name 1 bound)))

drops : Step moved_load home (quiet (entry.Drop 1 1)) dropped
drops = rows.quietly refl (inl (record { thread = bound; name = 1; of = refl; wants = refl; object = refl; becomes = refl })) refl refl

-- and its script has ended
ends : Step moved_load dropped (quiet (entry.Done 1)) moved_end
ends = rows.finishes _ refl refl refl refl refl refl

done : AllDone moved_end
done zero d lt = refl
done (suc k) d lt = absurd (omega arith)

pub moved_twice : IsMovedTwice
unfolding digits
moved_twice = worked
    (goes_on 0 (goes_on 0 (goes_on 0 (goes_on 0 (goes_on 0 (goes_on 0 (goes_on 0 none_yet makes refl) calls refl) passes refl)
    comes_back refl) comes_home refl) drops refl) ends refl)
    done
    refl
    refl
