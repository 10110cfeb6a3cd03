-- The run of the call whose fuel is used up, step by step.
use Rattle.std.proofs.Common.{zero, suc, arith, [], ◌∷◌, refl, Some}
use Rattle.std.specs.Fmt.{digits}
use Rattle.rl_defs.specs.declared.values.Value.TheVariants as value
use Rattle.machine_defs.specs.declared.values.Cause.TheVariants as cause
use Rattle.machine_defs.specs.declared.entry.Entry.TheVariants as entry
use Rattle.machine_defs.specs.State.{State, StackFrame, start, with_thread}
use Rattle.machine_defs.specs.Runs.{AllDone}
use Rattle.machine_defs.specs.Seen.{ended}
use Rattle.machine_defs.specs.Frames.{popped}
use Rattle.machine_defs.specs.CallRows.{call_entered}
use Rattle.machine_defs.specs.Steps.{Step}
use Rattle.worked_runs.specs.Parts.{thread, frame_at, quiet}
use Rattle.worked_runs.specs.OutOfFuel.{out_of_fuel, out_of_fuel_end, two_and_three, IsOutOfFuel}
use Rattle.worked_runs.proofs.Turns.{none_yet, goes_on, worked}
use Rattle.worked_runs.proofs.Rows.{quietly, enters, unwinds, finishes}

-- the client calls
abbrev before : State
before = start out_of_fuel

abbrev adding : StackFrame
adding = frame_at 1 1 1 0 two_and_three 2 (Some (value.Num 2) ∷ Some (value.Num 3) ∷ [])

abbrev called : State
called = call_entered 1 1 1 two_and_three adding (with_thread before 1 (thread 1 0 []))

calls : Step out_of_fuel before (quiet (entry.Call 1 1 1 1 0 two_and_three)) called
calls = enters _ 2 refl refl refl refl refl refl refl refl refl refl refl

-- the frame has added, and has no fuel to return
abbrev trapped : State
trapped = ended 1 (with_thread called 1 (thread 0 0 []))

traps : Step out_of_fuel called (quiet (entry.Trap 1 1 cause.Fuel)) trapped
traps = quietly refl (record { thread = thread 1 0 []; fuel = 0; frame = _; of = refl; wants = refl; inside = refl; becomes = refl }) refl refl

-- the call is unwound, and the script has ended
abbrev unwound : State
unwound = with_thread (popped 1 trapped) 1 (thread 0 1 [])

is_unwound : Step out_of_fuel trapped (quiet (entry.Unwound 1 1)) unwound
is_unwound = unwinds adding refl refl refl refl refl (record { thread = thread 0 0 []; of = refl; becomes = refl }) refl refl

ends : Step out_of_fuel unwound (quiet (entry.Done 1)) out_of_fuel_end
ends = finishes _ refl refl refl refl refl refl

done : AllDone out_of_fuel_end
done zero d lt = refl
done (suc k) d lt = absurd (omega arith)

pub out_of_fuel_is_worked : IsOutOfFuel
unfolding digits
out_of_fuel_is_worked = worked (goes_on 0 (goes_on 0 (goes_on 0 (goes_on 0 none_yet calls refl) traps refl) is_unwound refl) ends refl) done refl refl
