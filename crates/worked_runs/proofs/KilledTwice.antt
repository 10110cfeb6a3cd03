-- The run of the driver that is killed twice, step by step.
use Rattle.std.proofs.Common.{ℕ, zero, suc, arith, [], refl, true}
use Rattle.std.specs.Fmt.{digits}
use Rattle.machine_defs.specs.declared.values.RpcCode.TheVariants as code
use Rattle.machine_defs.specs.declared.entry.Entry.TheVariants as entry
use Rattle.machine_defs.specs.State.{State, StackFrame, start, with_thread}
use Rattle.machine_defs.specs.Runs.{AllDone}
use Rattle.machine_defs.specs.Seen.{ended}
use Rattle.machine_defs.specs.Frames.{popped, with_top}
use Rattle.machine_defs.specs.CallRows.{call_entered, numbered, reloaded}
use Rattle.machine_defs.specs.Steps.{Step}
use Rattle.worked_runs.specs.Parts.{thread, frame_at, quiet}
use Rattle.worked_runs.specs.KilledTwice.{killed_twice, killed_twice_end, IsKilledTwice}
use Rattle.worked_runs.proofs.Turns.{none_yet, goes_on, worked}
use Rattle.worked_runs.proofs.Rows as rows

abbrev pub size_frame : ℕ → ℕ → StackFrame
size_frame c i = frame_at c 2 i 0 [] 2 []

abbrev pub first : State
first = start killed_twice

abbrev pub called : State
called = call_entered 1 1 1 [] (size_frame 1 1) (with_thread first 1 (thread 9999 0 []))

call : Step killed_twice first (quiet (entry.Call 1 1 2 1 0 [])) called
call = rows.enters (with_thread first 1 (thread 9999 0 [])) 2 refl refl refl refl refl refl refl refl refl refl refl

abbrev pub called_too : State
called_too = call_entered 2 2 1 [] (size_frame 2 1) (with_thread called 2 (thread 9999 0 []))

call_too : Step killed_twice called (quiet (entry.Call 2 2 2 1 0 [])) called_too
call_too = rows.enters (with_thread called 2 (thread 9999 0 [])) 2 refl refl refl refl refl refl refl refl refl refl refl

abbrev pub killed : State
killed = ended 1 (with_thread called_too 3 (thread 9999 1 []))

kill : Step killed_twice called_too (quiet (entry.Kill 3 1)) killed
kill = rows.kills (thread 0 0 []) 2 refl refl refl refl refl refl refl

abbrev pub loaded : State
loaded = reloaded killed_twice 2 2 0 killed

reload : Step killed_twice killed (quiet (entry.Reload 1 2 2 0)) loaded
reload = rows.reloads_for (record { current = 1; left = 1 }) (size_frame 1 1) refl refl refl refl refl refl refl refl refl refl refl refl

abbrev pub issued : State
issued = with_top 1 (size_frame 1 2) loaded

again : Step killed_twice loaded (quiet (entry.Again 1 1 2 2)) issued
again = rows.issues_again (size_frame 1 1) 2 refl refl refl refl refl refl refl refl refl refl refl refl refl

abbrev pub issued_too : State
issued_too = with_top 2 (size_frame 2 2) issued

again_too : Step killed_twice issued (quiet (entry.Again 2 2 2 2)) issued_too
again_too = rows.issues_again (size_frame 2 1) 2 refl refl refl refl refl refl refl refl refl refl refl refl refl

abbrev pub killed_again : State
killed_again = ended 2 (with_thread issued_too 3 (thread 9999 2 []))

kill_again : Step killed_twice issued_too (quiet (entry.Kill 3 2)) killed_again
kill_again = rows.kills (thread 9999 1 []) 2 refl refl refl refl refl refl refl

abbrev pub unwound : State
unwound = with_thread (popped 1 killed_again) 1 (thread 9999 1 [])

unwinds : Step killed_twice killed_again (quiet (entry.Unwound 1 1)) unwound
unwinds = rows.unwinds (size_frame 1 2) refl refl refl refl refl (record { thread = thread 9999 0 []; of = refl; becomes = refl }) refl refl

abbrev pub one_done : State
one_done = with_thread unwound 1 (record (thread 9999 1 []) { done = true })

ends_one : Step killed_twice unwound (quiet (entry.Done 1)) one_done
ends_one = rows.finishes _ refl refl refl refl refl refl

abbrev pub unwound_too : State
unwound_too = with_thread (popped 2 one_done) 2 (thread 9999 1 [])

unwinds_too : Step killed_twice one_done (quiet (entry.Unwound 2 2)) unwound_too
unwinds_too = rows.unwinds (size_frame 2 2) refl refl refl refl refl (record { thread = thread 9999 0 []; of = refl; becomes = refl }) refl refl

abbrev pub refused : State
refused = with_thread (numbered 3 unwound_too) 3 (thread 9999 3 [])

refuses : Step killed_twice unwound_too (quiet (entry.Refuse 3 3 code.Gone 2 0 [])) refused
refuses = rows.quietly refl
    (record { charged = with_thread unwound_too 3 (thread 9999 2 []); wants = refl; refused = refl; number = refl; replies = record { thread = thread 9999 2 []; of = refl; becomes = refl } })
    refl refl

abbrev pub two_done : State
two_done = with_thread refused 2 (record (thread 9999 1 []) { done = true })

ends_two : Step killed_twice refused (quiet (entry.Done 2)) two_done
ends_two = rows.finishes _ refl refl refl refl refl refl

ends_three : Step killed_twice two_done (quiet (entry.Done 3)) killed_twice_end
ends_three = rows.finishes _ refl refl refl refl refl refl

done : AllDone killed_twice_end
done zero d lt = refl
done (suc zero) d lt = refl
done (suc (suc zero)) d lt = refl
done (suc (suc (suc k))) d lt = absurd (omega arith)

pub killed_twice_is_worked : IsKilledTwice
unfolding digits
killed_twice_is_worked = worked
    (goes_on 3
    (goes_on 2
    (goes_on 3
    (goes_on 2
    (goes_on 1
    (goes_on 0
    (goes_on 3
    (goes_on 2
    (goes_on 1 (goes_on 0 (goes_on 3 (goes_on 2 (goes_on 1 none_yet call refl) call_too refl) kill refl) reload refl) again refl)
    again_too refl)
    kill_again refl)
    unwinds refl)
    ends_one refl)
    unwinds_too refl)
    refuses refl)
    ends_two refl)
    ends_three refl)
    done
    refl
    refl
