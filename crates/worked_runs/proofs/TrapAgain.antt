-- The run of the driver that traps twice, step by step.
use Rattle.std.proofs.Common.{ℕ, zero, suc, arith, List, [], ◌∷◌, Option, Some, None, refl, inr}
use Rattle.std.specs.Fmt.{digits}
use Rattle.rl_defs.specs.declared.values.Value.{Value}
use Rattle.rl_defs.specs.declared.values.Value.TheVariants as value
use Rattle.machine_defs.specs.declared.values.Arg.TheVariants as arg
use Rattle.machine_defs.specs.declared.values.Cause.TheVariants as cause
use Rattle.machine_defs.specs.declared.values.Owner.TheVariants as owner
use Rattle.machine_defs.specs.declared.entry.Entry.TheVariants as entry
use Rattle.machine_defs.specs.State.{State, StackFrame, Thread, start, with_thread}
use Rattle.machine_defs.specs.Loans.{sweep}
use Rattle.machine_defs.specs.Runs.{AllDone}
use Rattle.machine_defs.specs.Objects.{with_new}
use Rattle.machine_defs.specs.Seen.{ended}
use Rattle.machine_defs.specs.Frames.{popped, with_top}
use Rattle.machine_defs.specs.CallRows.{call_entered, reloaded}
use Rattle.machine_defs.specs.Steps.{Step}
use Rattle.worked_runs.specs.Parts.{thread, frame_at, quiet, freeing}
use Rattle.worked_runs.specs.TrapAgain.{trap_again, trap_again_end, IsTrapAgain}
use Rattle.worked_runs.proofs.Turns.{none_yet, goes_on, worked}
use Rattle.worked_runs.proofs.Rows.{quietly, enters, acts, unwinds, finishes}

-- the reader's thread, whose name holds nothing, and the frame of its call, in an instance and at a line
abbrev reader : ℕ → Thread
reader fuel = thread fuel 0 (None ∷ [])

abbrev reading : ℕ → ℕ → List (Option Value) → StackFrame
reading i at values = frame_at 1 2 i 1 (arg.Num 4 ∷ []) at (Some (value.Num 4) ∷ values)

abbrev object : ℕ → List (Option Value)
object o = Some (value.Obj o) ∷ []

-- the client calls
abbrev before : State
before = start trap_again

abbrev called : State
called = call_entered 1 1 1 (arg.Num 4 ∷ []) (reading 1 6 []) (with_thread before 1 (reader 9999))

calls : Step trap_again before (quiet (entry.Call 1 1 2 1 1 (arg.Num 4 ∷ []))) called
calls = enters _ 6 refl refl refl refl refl refl refl refl refl refl refl

-- the driver makes an object, and traps at the block
abbrev made : State
made = with_new trap_again 0 (owner.Instance 1) [] (with_top 1 (reading 1 7 (object 1)) (with_thread called 1 (reader 9998)))

makes : Step trap_again called (quiet (entry.New 1 (owner.Instance 1) 1 0 [])) made
makes = quietly refl
    (record { number = refl; makes = inr (record { inside = 1; mine = refl; blank = refl; does = acts _ 9999 _ (reading 1 7 (object 1)) refl refl refl refl refl }) })
    refl refl

abbrev trapped : State
trapped = ended 1 (with_thread made 1 (reader 9998))

abbrev swept : State
swept = sweep trapped

traps : Step trap_again made (freeing (entry.Trap 1 1 cause.Device) (1 ∷ [])) swept
traps = record {
  made = trapped;
  enabled = refl;
  makes = record { thread = reader 9998; fuel = 9998; frame = _; of = refl; wants = refl; inside = refl; becomes = refl };
  frees = refl;
  swept = refl;
}

-- it is loaded again, and the call issued again
abbrev loaded : State
loaded = reloaded trap_again 2 2 0 swept

reloads : Step trap_again swept (quiet (entry.Reload 1 2 2 0)) loaded
reloads = quietly refl
    (record {
      shadow = record { current = 1; left = 1 };
      of = refl;
      dead = refl;
      restarts = refl;
      needed = inr (record { frame = reading 1 7 (object 1); on_top = refl; dead = refl; reissuable = refl; target = refl });
      number = refl;
      becomes = refl;
    })
    refl refl

abbrev issued : State
issued = with_top 1 (reading 2 6 []) loaded

again : Step trap_again loaded (quiet (entry.Again 1 1 2 2)) issued
again = quietly refl
    (record {
      dead = reading 1 7 (object 1);
      frame = reading 2 6 [];
      of = record { on_top = refl; dead = refl; call = refl };
      through = refl;
      reissuable = refl;
      into = refl;
      lives = refl;
      begins = record { is = refl; body = (refl, refl, refl) };
      becomes = refl;
    })
    refl refl

-- it makes an object again, and traps again
abbrev made_another : State
made_another = with_new trap_again 0 (owner.Instance 2) [] (with_top 1 (reading 2 7 (object 2)) (with_thread issued 1 (reader 9997)))

makes_another : Step trap_again issued (quiet (entry.New 1 (owner.Instance 2) 2 0 [])) made_another
makes_another = quietly refl
    (record { number = refl; makes = inr (record { inside = 2; mine = refl; blank = refl; does = acts _ 9998 _ (reading 2 7 (object 2)) refl refl refl refl refl }) })
    refl refl

abbrev trapped_again : State
trapped_again = ended 2 (with_thread made_another 1 (reader 9997))

abbrev swept_again : State
swept_again = sweep trapped_again

traps_again : Step trap_again made_another (freeing (entry.Trap 1 2 cause.Device) (2 ∷ [])) swept_again
traps_again = record {
  made = trapped_again;
  enabled = refl;
  makes = record { thread = reader 9997; fuel = 9997; frame = _; of = refl; wants = refl; inside = refl; becomes = refl };
  frees = refl;
  swept = refl;
}

-- the call is unwound, and the script has ended
abbrev unwound : State
unwound = with_thread (popped 1 swept_again) 1 (thread 9997 1 (None ∷ []))

is_unwound : Step trap_again swept_again (quiet (entry.Unwound 1 1)) unwound
is_unwound = unwinds (reading 2 7 (object 2)) refl refl refl refl refl (record { thread = reader 9997; of = refl; becomes = refl }) refl refl

ends : Step trap_again unwound (quiet (entry.Done 1)) trap_again_end
ends = finishes _ refl refl refl refl refl refl

done : AllDone trap_again_end
done zero d lt = refl
done (suc k) d lt = absurd (omega arith)

pub trap_again_is_worked : IsTrapAgain
unfolding digits
trap_again_is_worked = worked
    (goes_on 0 (goes_on 0 (goes_on 0 (goes_on 0 (goes_on 0 (goes_on 0 (goes_on 0 (goes_on 0 (goes_on 0 none_yet calls refl) makes refl) traps refl)
    reloads refl) again refl) makes_another refl) traps_again refl) is_unwound refl) ends refl)
    done
    refl
    refl
