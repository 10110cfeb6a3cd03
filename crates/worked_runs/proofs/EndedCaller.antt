-- The run of the caller that ends while its callee runs, step by step.
use Rattle.std.proofs.Common.{ℕ, zero, suc, arith, List, [], ◌∷◌, Option, Some, refl, true}
use Rattle.std.specs.Fmt.{digits}
use Rattle.rl_defs.specs.declared.values.Value.{Value}
use Rattle.rl_defs.specs.declared.values.Value.TheVariants as value
use Rattle.machine_defs.specs.declared.values.Owner.TheVariants as owner
use Rattle.machine_defs.specs.declared.entry.Entry.TheVariants as entry
use Rattle.machine_defs.specs.State.{State, StackFrame, start, with_thread}
use Rattle.machine_defs.specs.Loans.{sweep}
use Rattle.machine_defs.specs.Runs.{AllDone}
use Rattle.machine_defs.specs.Objects.{with_new}
use Rattle.machine_defs.specs.Seen.{ended}
use Rattle.machine_defs.specs.Frames.{popped, with_top}
use Rattle.machine_defs.specs.CallRows.{call_entered, after_return}
use Rattle.machine_defs.specs.Steps.{Step}
use Rattle.worked_runs.specs.Parts.{thread, frame_at, quiet, freeing}
use Rattle.worked_runs.specs.EndedCaller.{ended_caller, ended_caller_end, IsEndedCaller}
use Rattle.worked_runs.proofs.Turns.{none_yet, goes_on, worked}
use Rattle.worked_runs.proofs.Rows as rows

-- the outer and the inner frame
abbrev pub outer : ℕ → List (Option Value) → StackFrame
outer at values = frame_at 1 2 2 0 [] at values

abbrev pub inner : ℕ → List (Option Value) → StackFrame
inner at values = frame_at 2 1 1 0 [] at values

abbrev pub first : State
first = start ended_caller

abbrev pub called : State
called = call_entered 1 1 2 [] (outer 3 []) (with_thread first 1 (thread 9999 0 []))

pub call : Step ended_caller first (quiet (entry.Call 1 1 2 2 0 [])) called
call = rows.enters (with_thread first 1 (thread 9999 0 [])) 3 refl refl refl refl refl refl refl refl refl refl refl

-- while the inner call runs the outer frame stands at its call
abbrev pub charged : State
charged = with_top 1 (outer 4 (Some (value.Cap 1) ∷ [])) (with_thread called 1 (thread 9997 0 []))

abbrev pub called_inner : State
called_inner = call_entered 1 2 1 [] (inner 2 []) charged

pub call_inner : Step ended_caller called (quiet (entry.Call 1 2 1 1 0 [])) called_inner
call_inner = rows.enters charged 2 refl refl refl refl refl refl refl refl refl refl refl

abbrev pub killed : State
killed = ended 2 (with_thread called_inner 2 (thread 9999 1 []))

pub kill : Step ended_caller called_inner (quiet (entry.Kill 2 2)) killed
kill = rows.kills (thread 0 0 []) 2 refl refl refl refl refl refl refl

abbrev pub made_object : State
made_object = with_new ended_caller 0 (owner.Instance 1) [] (with_top 1 (inner 3 (Some (value.Obj 1) ∷ [])) (with_thread killed 1 (thread 9996 0 [])))

new : Step ended_caller killed (quiet (entry.New 1 (owner.Instance 1) 1 0 [])) made_object
new = rows.makes_own (thread 9997 0 []) 9997 (inner 2 []) (inner 3 (Some (value.Obj 1) ∷ [])) refl refl refl refl refl refl refl refl refl

abbrev pub returned : State
returned = after_return 1 9996 (thread 9996 0 []) (value.Obj 1 ∷ []) made_object

abbrev pub without_the_object : State
without_the_object = sweep returned

returns : Step ended_caller made_object (freeing (entry.Ret 1 2 (value.Obj 1 ∷ [])) (1 ∷ [])) without_the_object
returns = record {
  made = returned;
  enabled = refl;
  makes = record {
    thread = thread 9996 0 [];
    fuel = 9996;
    frame = inner 3 (Some (value.Obj 1) ∷ []);
    of = refl;
    wants = refl;
    call = refl;
    replies = refl;
  };
  frees = refl;
  swept = refl;
}

abbrev pub killer_done : State
killer_done = with_thread without_the_object 2 (record (thread 9999 1 []) { done = true })

ends_killer : Step ended_caller without_the_object (quiet (entry.Done 2)) killer_done
ends_killer = rows.finishes _ refl refl refl refl refl refl

abbrev pub unwound : State
unwound = with_thread (popped 1 killer_done) 1 (thread 9995 1 [])

unwinds : Step ended_caller killer_done (quiet (entry.Unwound 1 1)) unwound
unwinds =
    rows.unwinds (outer 4 (Some (value.Cap 1) ∷ [])) refl refl refl refl refl (record { thread = thread 9995 0 []; of = refl; becomes = refl }) refl refl

ends_caller : Step ended_caller unwound (quiet (entry.Done 1)) ended_caller_end
ends_caller = rows.finishes _ refl refl refl refl refl refl

done : AllDone ended_caller_end
done zero d lt = refl
done (suc zero) d lt = refl
done (suc (suc k)) d lt = absurd (omega arith)

pub ended_caller_is_worked : IsEndedCaller
unfolding digits
ended_caller_is_worked = worked
    (goes_on 2 (goes_on 1 (goes_on 0 (goes_on 2 (goes_on 1 (goes_on 0 (goes_on 2 (goes_on 1 none_yet call refl) call_inner refl) kill refl) new refl) returns refl)
    ends_killer refl) unwinds refl) ends_caller refl)
    done
    refl
    refl
