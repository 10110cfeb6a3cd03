-- The object whose owner is killed while it is lent, step by step.
use Rattle.std.proofs.Common.{ℕ, zero, suc, arith, List, [], ◌∷◌, refl, Option, Some, true}
use Rattle.std.specs.Fmt.{digits}
use Rattle.rl_defs.specs.declared.values.Value.{Value}
use Rattle.rl_defs.specs.declared.values.Value.TheVariants as value
use Rattle.machine_defs.specs.declared.values.Arg.{Arg}
use Rattle.machine_defs.specs.declared.values.Arg.TheVariants as arg
use Rattle.machine_defs.specs.declared.values.Owner.TheVariants as owner
use Rattle.machine_defs.specs.declared.entry.Entry.TheVariants as entry
use Rattle.machine_defs.specs.Runs.{AllDone}
use Rattle.machine_defs.specs.State.{State, StackFrame, start, with_thread}
use Rattle.machine_defs.specs.Loans.{sweep}
use Rattle.machine_defs.specs.Objects.{with_new}
use Rattle.machine_defs.specs.Seen.{ended}
use Rattle.machine_defs.specs.Frames.{with_top, popped}
use Rattle.machine_defs.specs.CallRows.{call_entered, after_return, command_done}
use Rattle.machine_defs.specs.Steps.{Step}
use Rattle.worked_runs.specs.Parts.{thread, frame_at, quiet, freeing}
use Rattle.worked_runs.specs.LentWhileKilled.{lent_load, lent_end, IsLentWhileKilled}
use Rattle.worked_runs.proofs.Turns.{none_yet, goes_on, worked}
use Rattle.worked_runs.proofs.Rows as rows

abbrev object : Option Value
object = Some (value.Obj 1)

abbrev target : ℕ → Option Value
target x = Some (value.Cap x)

abbrev pub its_loan : List Arg
its_loan = arg.Lent 1 ∷ []

abbrev pub zero_back : List Value
zero_back = value.Num 0 ∷ []

-- the calls of a, e and f: where each stands, and what its first registers hold
abbrev owning : ℕ → List (Option Value) → StackFrame
owning at values = frame_at 1 3 3 0 [] at values

abbrev lending : ℕ → List (Option Value) → StackFrame
lending at values = frame_at 2 2 2 0 its_loan at values

abbrev reading : ℕ → List (Option Value) → StackFrame
reading at values = frame_at 3 1 1 0 its_loan at values

-- client x calls
abbrev before : State
before = start lent_load

abbrev pub called : State
called = call_entered 1 1 3 [] (owning 3 []) (with_thread before 1 (thread 9999 0 []))

pub calls : Step lent_load before (quiet (entry.Call 1 1 3 3 0 [])) called
calls = rows.enters _ 3 refl refl refl refl refl refl refl refl refl refl refl

-- the called instance makes an object
abbrev pub made : State
made = with_new lent_load 0 (owner.Instance 3) [] (with_top 1 (owning 4 (object ∷ [])) (with_thread called 1 (thread 9998 0 [])))

pub makes : Step lent_load called (quiet (entry.New 1 (owner.Instance 3) 1 0 [])) made
makes = rows.makes_own (thread 9999 0 []) 9999 _ (owning 4 (object ∷ [])) refl refl refl refl refl refl refl refl refl

-- it lends the object
abbrev pub lent : State
lent = call_entered 1 2 2 its_loan (lending 3 (object ∷ [])) (with_top 1 (owning 5 (object ∷ target 2 ∷ [])) (with_thread made 1 (thread 9996 0 [])))

pub lends : Step lent_load made (quiet (entry.Call 1 2 2 2 0 its_loan)) lent
lends = rows.enters _ 3 refl refl refl refl refl refl refl refl refl refl refl

-- client y kills it; nothing is freed, since the object is lent
abbrev pub killed : State
killed = ended 3 (with_thread lent 2 (command_done lent_load 2 [] (thread 0 0 [])))

pub kills : Step lent_load lent (quiet (entry.Kill 2 3)) killed
kills = rows.kills (thread 0 0 []) 3 refl refl refl refl refl refl refl

-- the object is lent on
abbrev pub lent_on : State
lent_on = call_entered 1 3 1 its_loan (reading 2 (object ∷ [])) (with_top 1 (lending 4 (object ∷ target 1 ∷ [])) (with_thread killed 1 (thread 9994 0 [])))

pub lends_on : Step lent_load killed (quiet (entry.Call 1 3 1 1 0 its_loan)) lent_on
lends_on = rows.enters _ 2 refl refl refl refl refl refl refl refl refl refl refl

-- its cell was read, by two instructions, and is returned
abbrev pub read : State
read = with_top 1 (lending 5 (object ∷ target 1 ∷ Some (value.Num 0) ∷ [])) (after_return 1 9992 (thread 9994 0 []) zero_back lent_on)

pub reads : Step lent_load lent_on (quiet (entry.Ret 1 3 zero_back)) read
reads =
    rows.returns (thread 9994 0 []) 9992 _ refl refl refl refl (record { frame = lending 5 (object ∷ target 1 ∷ Some (value.Num 0) ∷ []); answers = refl; becomes = refl }) refl refl

-- the last loan ends, and the object is freed; the caller is of an ended instance, and gets nothing
abbrev pub unlent : State
unlent = after_return 1 9991 (thread 9991 0 []) zero_back read

abbrev pub freed : State
freed = sweep unlent

pub frees : Step lent_load read (freeing (entry.Ret 1 2 zero_back) (1 ∷ [])) freed
frees = record {
  made = unlent;
  enabled = refl;
  makes = record { thread = thread 9991 0 []; fuel = 9991; frame = _; of = refl; wants = refl; call = refl; replies = refl };
  frees = refl;
  swept = refl;
}

-- client y's script has ended
abbrev half_done : State
half_done = with_thread freed 2 (record (thread 9999 1 []) { done = true })

ends_second : Step lent_load freed (quiet (entry.Done 2)) half_done
ends_second = rows.finishes _ refl refl refl refl refl refl

-- the call of client x is unwound
abbrev unwound : State
unwound = with_thread (popped 1 half_done) 1 (thread 9990 1 [])

unwinds : Step lent_load half_done (quiet (entry.Unwound 1 1)) unwound
unwinds =
    rows.unwinds (owning 5 (object ∷ target 2 ∷ [])) refl refl refl refl refl (record { thread = thread 9990 0 []; of = refl; becomes = refl }) refl refl

-- and its script has ended
ends_first : Step lent_load unwound (quiet (entry.Done 1)) lent_end
ends_first = rows.finishes _ refl refl refl refl refl refl

done : AllDone lent_end
done zero d lt = refl
done (suc zero) d lt = refl
done (suc (suc k)) d lt = absurd (omega arith)

pub lent_while_killed : IsLentWhileKilled
unfolding digits
lent_while_killed = worked
    (goes_on 2 (goes_on 1 (goes_on 0 (goes_on 3 (goes_on 2 (goes_on 1 (goes_on 0 (goes_on 3 (goes_on 2 (goes_on 1 none_yet calls refl)
    makes refl) lends refl) kills refl) lends_on refl) reads refl) frees refl) ends_second refl) unwinds refl) ends_first refl)
    done
    refl
    refl
