-- The run of the domain that puts twice, step by step.
use Rattle.std.proofs.Common.{ℕ, zero, suc, arith, List, [], ◌∷◌, refl, inr, Option, Some, codes}
use Rattle.std.specs.Fmt.{digits}
use Rattle.rl_defs.specs.declared.values.Value.{Value}
use Rattle.rl_defs.specs.declared.values.Value.TheVariants as value
use Rattle.machine_defs.specs.declared.values.Owner.TheVariants as owner
use Rattle.machine_defs.specs.declared.values.Cause.TheVariants as cause
use Rattle.machine_defs.specs.declared.entry.Entry.TheVariants as entry
use Rattle.machine_defs.specs.State.{State, StackFrame, start, with_thread}
use Rattle.machine_defs.specs.Loans.{sweep}
use Rattle.machine_defs.specs.Runs.{AllDone}
use Rattle.machine_defs.specs.Objects.{with_new}
use Rattle.machine_defs.specs.Seen.{ended, with_slot}
use Rattle.machine_defs.specs.Frames.{with_top, popped}
use Rattle.machine_defs.specs.CallRows.{call_entered, after_return}
use Rattle.machine_defs.specs.Steps.{Step}
use Rattle.worked_runs.specs.Parts.{thread, frame_at, quiet, freeing}
use Rattle.worked_runs.specs.PutTwice.{put_twice, put_twice_end, IsPutTwice}
use Rattle.worked_runs.proofs.Turns.{none_yet, goes_on, worked}
use Rattle.worked_runs.proofs.Rows.{quietly, enters, acts, unwinds, finishes}

-- a call, at a line with these first registers
abbrev keeping : ℕ → ℕ → List (Option Value) → StackFrame
keeping c at values = frame_at c 1 1 0 [] at values

abbrev object : ℕ → List (Option Value)
object o = Some (value.Obj o) ∷ []

-- the first call
abbrev before : State
before = start put_twice

abbrev called : State
called = call_entered 1 1 1 [] (keeping 1 3 []) (with_thread before 1 (thread 9999 0 []))

calls : Step put_twice before (quiet (entry.Call 1 1 1 1 0 [])) called
calls = enters _ 3 refl refl refl refl refl refl refl refl refl refl refl

-- it makes an object, puts it into the slot, and returns
abbrev made : State
made = with_new put_twice 0 (owner.Instance 1) [] (with_top 1 (keeping 1 4 (object 1)) (with_thread called 1 (thread 9998 0 [])))

makes : Step put_twice called (quiet (entry.New 1 (owner.Instance 1) 1 0 [])) made
makes = quietly refl (record { number = refl; makes = inr (record { inside = 1; mine = refl; blank = refl; does = acts _ 9999 _ (keeping 1 4 (object 1)) refl refl refl refl refl }) }) refl refl

abbrev kept : State
kept = with_slot 1 0 (Some 1) (with_top 1 (keeping 1 5 []) (with_thread made 1 (thread 9997 0 [])))

puts : Step put_twice made (quiet (entry.Put 1 1 (codes "s") 1)) kept
puts = quietly refl (record { place = 0; named = refl; empty = refl; does = acts _ 9998 _ (keeping 1 5 []) refl refl refl refl refl }) refl refl

abbrev returned : State
returned = with_thread (after_return 1 9997 (thread 9997 0 []) [] kept) 1 (thread 9996 1 [])

returns : Step put_twice kept (quiet (entry.Ret 1 1 [])) returned
returns = quietly refl (record { thread = thread 9997 0 []; fuel = 9997; frame = _; of = refl; wants = refl; call = refl; replies = record { thread = thread 9996 0 []; of = refl; becomes = refl } }) refl refl

-- the second call makes another one, and traps
abbrev called_again : State
called_again = call_entered 1 2 1 [] (keeping 2 3 []) (with_thread returned 1 (thread 9999 1 []))

calls_again : Step put_twice returned (quiet (entry.Call 1 2 1 1 0 [])) called_again
calls_again = enters _ 3 refl refl refl refl refl refl refl refl refl refl refl

abbrev made_another : State
made_another = with_new put_twice 0 (owner.Instance 1) [] (with_top 1 (keeping 2 4 (object 2)) (with_thread called_again 1 (thread 9998 1 [])))

makes_another : Step put_twice called_again (quiet (entry.New 1 (owner.Instance 1) 2 0 [])) made_another
makes_another = quietly refl (record { number = refl; makes = inr (record { inside = 1; mine = refl; blank = refl; does = acts _ 9999 _ (keeping 2 4 (object 2)) refl refl refl refl refl }) }) refl refl

abbrev trapped : State
trapped = ended 1 (with_thread made_another 1 (thread 9998 1 []))

abbrev swept : State
swept = sweep trapped

traps : Step put_twice made_another (freeing (entry.Trap 1 1 cause.Full) (1 ∷ 2 ∷ [])) swept
traps = record {
  made = trapped;
  enabled = refl;
  makes = record { thread = thread 9998 1 []; fuel = 9998; frame = _; of = refl; wants = refl; inside = refl; becomes = refl };
  frees = refl;
  swept = refl;
}

-- the call is unwound, and the script has ended
abbrev unwound : State
unwound = with_thread (popped 1 swept) 1 (thread 9998 2 [])

is_unwound : Step put_twice swept (quiet (entry.Unwound 1 2)) unwound
is_unwound = unwinds (keeping 2 4 (object 2)) refl refl refl refl refl (record { thread = thread 9998 1 []; of = refl; becomes = refl }) refl refl

ends : Step put_twice unwound (quiet (entry.Done 1)) put_twice_end
ends = finishes _ refl refl refl refl refl refl

done : AllDone put_twice_end
done zero d lt = refl
done (suc k) d lt = absurd (omega arith)

pub put_twice_is_worked : IsPutTwice
unfolding digits
put_twice_is_worked = worked
    (goes_on 0 (goes_on 0 (goes_on 0 (goes_on 0 (goes_on 0 (goes_on 0 (goes_on 0 (goes_on 0 (goes_on 0 none_yet calls refl) makes refl)
    puts refl) returns refl) calls_again refl) makes_another refl) traps refl) is_unwound refl) ends refl)
    done
    refl
    refl
