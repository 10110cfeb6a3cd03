-- The run of the driver that is killed in a read, step by step.
use Rattle.std.proofs.Common.{ℕ, zero, suc, arith, List, [], ◌∷◌, Option, Some, None, refl, true}
use Rattle.std.specs.Fmt.{digits}
use Rattle.machine_defs.specs.declared.values.Arg.TheVariants as arg
use Rattle.rl_defs.specs.declared.values.Value.{Value}
use Rattle.rl_defs.specs.declared.values.Value.TheVariants as value
use Rattle.machine_defs.specs.declared.values.Owner.TheVariants as owner
use Rattle.machine_defs.specs.declared.entry.Entry.TheVariants as entry
use Rattle.machine_defs.specs.State.{State, StackFrame, Thread, start, with_thread}
use Rattle.machine_defs.specs.Loans.{sweep}
use Rattle.machine_defs.specs.Runs.{AllDone}
use Rattle.machine_defs.specs.Objects.{with_new, with_cells_of}
use Rattle.machine_defs.specs.Seen.{ended}
use Rattle.machine_defs.specs.Frames.{with_top}
use Rattle.machine_defs.specs.CallRows.{call_entered, reloaded, after_return}
use Rattle.machine_defs.specs.ObjectRows.{instead, block}
use Rattle.machine_defs.specs.Steps.{Step}
use Rattle.worked_runs.specs.Parts.{thread, frame_at, quiet, freeing}
use Rattle.worked_runs.specs.KilledInARead.{killed_in_a_read, killed_in_a_read_end, IsKilledInARead}
use Rattle.worked_runs.proofs.Turns.{none_yet, goes_on, worked}
use Rattle.worked_runs.proofs.Rows as rows

-- the reader's thread, whose name holds nothing yet, and the frame of its call, in an instance and at a line
abbrev pub reader : ℕ → Thread
reader fuel = thread fuel 0 (None ∷ [])

abbrev pub read_frame : ℕ → ℕ → List (Option Value) → StackFrame
read_frame i at values = frame_at 1 2 i 1 (arg.Num 0 ∷ []) at (Some (value.Num 0) ∷ values)

abbrev pub first : State
first = start killed_in_a_read

abbrev pub called : State
called = call_entered 1 1 1 (arg.Num 0 ∷ []) (read_frame 1 6 []) (with_thread first 1 (reader 9999))

call : Step killed_in_a_read first (quiet (entry.Call 1 1 2 1 1 (arg.Num 0 ∷ []))) called
call = rows.enters (with_thread first 1 (reader 9999)) 6 refl refl refl refl refl refl refl refl refl refl refl

abbrev pub made_block : State
made_block = with_new killed_in_a_read 0 (owner.Instance 1) [] (with_top 1 (read_frame 1 7 (Some (value.Obj 1) ∷ [])) (with_thread called 1 (reader 9998)))

new : Step killed_in_a_read called (quiet (entry.New 1 (owner.Instance 1) 1 0 [])) made_block
new = rows.makes_own (reader 9999) 9999 (read_frame 1 6 []) (read_frame 1 7 (Some (value.Obj 1) ∷ [])) refl refl refl refl refl refl refl refl refl

abbrev pub killed : State
killed = ended 1 (with_thread made_block 2 (thread 9999 1 []))

abbrev pub without_the_block : State
without_the_block = sweep killed

kill : Step killed_in_a_read made_block (freeing (entry.Kill 2 1) (1 ∷ [])) without_the_block
kill = record {
  made = killed;
  enabled = refl;
  makes = record { thread = thread 0 0 []; target = 2; of = refl; wants = refl; inside = refl; becomes = refl };
  frees = refl;
  swept = refl;
}

abbrev pub loaded : State
loaded = reloaded killed_in_a_read 2 2 0 without_the_block

reload : Step killed_in_a_read without_the_block (quiet (entry.Reload 1 2 2 0)) loaded
reload =
    rows.reloads_for (record { current = 1; left = 1 }) (read_frame 1 7 (Some (value.Obj 1) ∷ [])) refl refl refl refl refl refl refl refl refl refl refl refl

abbrev pub issued : State
issued = with_top 1 (read_frame 2 6 []) loaded

again : Step killed_in_a_read loaded (quiet (entry.Again 1 1 2 2)) issued
again = rows.issues_again (read_frame 1 7 (Some (value.Obj 1) ∷ [])) 6 refl refl refl refl refl refl refl refl refl refl refl refl refl

abbrev pub killer_done : State
killer_done = with_thread issued 2 (record (thread 9999 1 []) { done = true })

ends_killer : Step killed_in_a_read issued (quiet (entry.Done 2)) killer_done
ends_killer = rows.finishes _ refl refl refl refl refl refl

abbrev pub made_another : State
made_another = with_new killed_in_a_read 0 (owner.Instance 2) [] (with_top 1 (read_frame 2 7 (Some (value.Obj 2) ∷ [])) (with_thread killer_done 1 (reader 9997)))

new_another : Step killed_in_a_read killer_done (quiet (entry.New 1 (owner.Instance 2) 2 0 [])) made_another
new_another =
    rows.makes_own (reader 9998) 9998 (read_frame 2 6 []) (read_frame 2 7 (Some (value.Obj 2) ∷ [])) refl refl refl refl refl refl refl refl refl

abbrev pub filled : State
filled = with_cells_of 2 (instead (block made_another 0)) (with_top 1 (read_frame 2 8 (Some (value.Obj 2) ∷ [])) (with_thread made_another 1 (reader 9996)))

fills : Step killed_in_a_read made_another (quiet (entry.DevGet 1 2 0)) filled
fills = rows.quietly refl (2, rows.acts (reader 9997) 9997 _ (read_frame 2 8 (Some (value.Obj 2) ∷ [])) refl refl refl refl refl) refl refl

abbrev pub returned : State
returned = with_thread (after_return 1 9996 (reader 9996) (value.Obj 2 ∷ []) filled) 1 (thread 9995 1 (Some (value.Obj 2) ∷ []))

returns : Step killed_in_a_read filled (quiet (entry.Ret 1 1 (value.Obj 2 ∷ []))) returned
returns =
    rows.returns (reader 9996) 9996 (read_frame 2 8 (Some (value.Obj 2) ∷ [])) refl refl refl refl (record { thread = reader 9995; of = refl; becomes = refl }) refl refl

ends_reader : Step killed_in_a_read returned (quiet (entry.Done 1)) killed_in_a_read_end
ends_reader = rows.finishes _ refl refl refl refl refl refl

done : AllDone killed_in_a_read_end
done zero d lt = refl
done (suc zero) d lt = refl
done (suc (suc k)) d lt = absurd (omega arith)

pub killed_in_a_read_is_worked : IsKilledInARead
unfolding digits
killed_in_a_read_is_worked = worked
    (goes_on 2
    (goes_on 1
    (goes_on 2
    (goes_on 1
    (goes_on 0 (goes_on 2 (goes_on 1 (goes_on 0 (goes_on 2 (goes_on 1 none_yet call refl) new refl) kill refl) reload refl) again refl) ends_killer refl)
    new_another refl)
    fills refl)
    returns refl)
    ends_reader refl)
    done
    refl
    refl
