-- The run of a native body over a driver, step by step.
use Rattle.std.proofs.Common.{ℕ, zero, suc, arith, List, [], ◌∷◌, refl, inr, Option, Some, lit<, lit≤}
use Rattle.std.specs.Fmt.{digits}
use Rattle.rl_defs.specs.declared.values.Value.{Value}
use Rattle.rl_defs.specs.declared.values.Value.TheVariants as value
use Rattle.machine_defs.specs.declared.values.Cause.TheVariants as cause
use Rattle.machine_defs.specs.declared.values.Owner.TheVariants as owner
use Rattle.machine_defs.specs.declared.values.RpcCode.TheVariants as code
use Rattle.machine_defs.specs.declared.frame.Action.{Action}
use Rattle.machine_defs.specs.declared.frame.Action.TheVariants as action
use Rattle.machine_defs.specs.declared.frame.FrameBody.TheVariants as body
use Rattle.machine_defs.specs.declared.entry.Entry.TheVariants as entry
use Rattle.machine_defs.specs.State.{State, StackFrame, start, with_thread}
use Rattle.machine_defs.specs.Loans.{object_of}
use Rattle.machine_defs.specs.Runs.{AllDone}
use Rattle.machine_defs.specs.Objects.{with_new, without, with_cells_of, overwritten, cells_in}
use Rattle.machine_defs.specs.Seen.{ended}
use Rattle.machine_defs.specs.Frames.{frame_of, popped, with_top}
use Rattle.machine_defs.specs.CallRows.{after_return, call_entered, numbered}
use Rattle.machine_defs.specs.ObjectRows.{block, instead, with_block}
use Rattle.machine_defs.specs.Steps.{Step}
use Rattle.worked_runs.specs.Parts.{thread, frame_at, quiet}
use Rattle.worked_runs.specs.NativeOverDriver.{native_load, native_end, block_one, block_one_from, IsNativeOverDriver}
use Rattle.worked_runs.proofs.Turns.{none_yet, goes_on, worked}
use Rattle.worked_runs.proofs.Rows.{quietly, enters, acts, unwinds, finishes}

-- a call of `mkfs`, with the objects that it holds, and what it has chosen
abbrev choosing : ℕ → List ℕ → Action → StackFrame
choosing c held next = frame_of c 2 2 0 [] (body.Native held next)

-- the calls of the disk, at a line with these registers behind the block's number
abbrev writing : ℕ → StackFrame
writing at = frame_at 2 1 1 2 block_one_from at (Some (value.Num 1) ∷ Some (value.Obj 1) ∷ [])

abbrev reading : ℕ → List (Option Value) → StackFrame
reading at values = frame_at 3 1 1 1 block_one at (Some (value.Num 1) ∷ values)

-- the top frame has acted: how it stands then, and with what fuel
abbrev acted : StackFrame → ℕ → State → State
acted f fuel s = with_top 1 f (with_thread s 1 (thread fuel 0 []))

-- the client calls, and the body chooses to make an object
abbrev before : State
before = start native_load

abbrev called : State
called = call_entered 1 1 2 [] (choosing 1 [] (action.New 0)) (with_thread before 1 (thread 9999 0 []))

calls : Step native_load before (quiet (entry.Call 1 1 2 2 0 [])) called
calls = quietly refl
    (record {
      charged = _;
      frame = choosing 1 [] (action.New 0);
      wants = refl;
      unrefused = refl;
      into = refl;
      lives = refl;
      number = refl;
      begins = record { is = refl; body = (refl, refl, record { struct = _; row = refl; numbers = refl; room = lit< tt }) };
      becomes = refl;
    })
    refl refl

-- it makes the object, and sets its first cells
abbrev sets_two : Action
sets_two = action.Set 1 0 (7 ∷ 8 ∷ [])

abbrev made : State
made = with_new native_load 0 (owner.Instance 2) [] (acted (choosing 1 (1 ∷ []) sets_two) 9998 called)

makes : Step native_load called (quiet (entry.New 1 (owner.Instance 2) 1 0 [])) made
makes = quietly refl
    (record {
      number = refl;
      makes = inr (record {
        inside = 2;
        mine = refl;
        blank = refl;
        does = acts _ 9999 (choosing 1 [] (action.New 0)) (choosing 1 (1 ∷ []) sets_two) refl refl refl (sets_two, refl, record { holds = refl; some = lit< tt; suits = refl }) refl;
      });
    })
    refl refl

abbrev writes_block : Action
writes_block = action.Call 1 2 block_one_from

abbrev filled : State
filled = with_cells_of 1 (overwritten 0 (7 ∷ 8 ∷ [])) (acted (choosing 1 (1 ∷ []) writes_block) 9997 made)

sets : Step native_load made (quiet (entry.Set 1 1 0 (7 ∷ 8 ∷ []))) filled
sets = quietly refl (
  2,
  acts _ 9998 (choosing 1 (1 ∷ []) sets_two) (choosing 1 (1 ∷ []) writes_block) refl refl refl (
    writes_block,
    refl,
    record { import = 0; bound = refl; method = _; row = refl; suits = refl; moves = refl; lends = refl; once = refl; apart = refl; room = lit≤ tt },
  )
      refl,
)
    refl refl

-- it calls the disk with the object on loan: the disk writes the block, and returns
abbrev called_disk : State
called_disk = call_entered 1 2 1 block_one_from (writing 11) (acted (choosing 1 (1 ∷ []) writes_block) 9996 filled)

calls_disk : Step native_load filled (quiet (entry.Call 1 2 1 1 2 block_one_from)) called_disk
calls_disk = enters _ 11 refl refl refl refl refl refl refl refl refl refl refl

abbrev wrote : State
wrote = with_block 1 (cells_in (object_of called_disk 1)) (acted (writing 12) 9995 called_disk)

writes : Step native_load called_disk (quiet (entry.DevPut 1 1 1)) wrote
writes = quietly refl (1, acts _ 9996 _ (writing 12) refl refl refl refl refl) refl refl

abbrev back : State
back = with_top 1 (choosing 1 (1 ∷ []) (action.Drop 1)) (after_return 1 9995 (thread 9995 0 []) [] wrote)

comes_back : Step native_load wrote (quiet (entry.Ret 1 2 [])) back
comes_back = quietly refl
    (record {
      thread = thread 9995 0 [];
      fuel = 9995;
      frame = _;
      of = refl;
      wants = refl;
      call = refl;
      replies = record { frame = choosing 1 (1 ∷ []) (action.Drop 1); answers = (action.Drop 1, refl, refl); becomes = refl };
    })
    refl refl

-- it drops the object, and reads the block back, whose object it holds then
abbrev reads_block : Action
reads_block = action.Call 1 1 block_one

abbrev dropped : State
dropped = without (1 ∷ []) (acted (choosing 1 [] reads_block) 9993 back)

drops : Step native_load back (quiet (entry.Drop 1 1)) dropped
drops = quietly refl
    (inr (
      2,
      acts _ 9994 (choosing 1 (1 ∷ []) (action.Drop 1)) (choosing 1 [] reads_block) refl refl refl (
        reads_block,
        refl,
        record { import = 0; bound = refl; method = _; row = refl; suits = refl; moves = refl; lends = refl; once = refl; apart = refl; room = lit≤ tt },
      )
          refl,
    ))
    refl refl

abbrev called_disk_again : State
called_disk_again = call_entered 1 3 1 block_one (reading 6 []) (acted (choosing 1 [] reads_block) 9992 dropped)

calls_disk_again : Step native_load dropped (quiet (entry.Call 1 3 1 1 1 block_one)) called_disk_again
calls_disk_again = enters _ 6 refl refl refl refl refl refl refl refl refl refl refl

abbrev made_block : State
made_block = with_new native_load 0 (owner.Instance 1) [] (acted (reading 7 (Some (value.Obj 2) ∷ [])) 9991 called_disk_again)

makes_block : Step native_load called_disk_again (quiet (entry.New 1 (owner.Instance 1) 2 0 [])) made_block
makes_block = quietly refl
    (record { number = refl; makes = inr (record { inside = 1; mine = refl; blank = refl; does = acts _ 9992 _ (reading 7 (Some (value.Obj 2) ∷ [])) refl refl refl refl refl }) })
    refl refl

abbrev read : State
read = with_cells_of 2 (instead (block made_block 1)) (acted (reading 8 (Some (value.Obj 2) ∷ [])) 9990 made_block)

reads : Step native_load made_block (quiet (entry.DevGet 1 2 1)) read
reads = quietly refl (1, acts _ 9991 _ (reading 8 (Some (value.Obj 2) ∷ [])) refl refl refl refl refl) refl refl

abbrev back_again : State
back_again = with_top 1 (choosing 1 (2 ∷ []) (action.Drop 2)) (after_return 1 9990 (thread 9990 0 []) (value.Obj 2 ∷ []) read)

comes_back_again : Step native_load read (quiet (entry.Ret 1 3 (value.Obj 2 ∷ []))) back_again
comes_back_again = quietly refl
    (record {
      thread = thread 9990 0 [];
      fuel = 9990;
      frame = _;
      of = refl;
      wants = refl;
      call = refl;
      replies = record { frame = choosing 1 (2 ∷ []) (action.Drop 2); answers = (action.Drop 2, refl, refl); becomes = refl };
    })
    refl refl

-- it drops that one too, and returns 0
abbrev returns_zero : Action
returns_zero = action.Ret (value.Num 0 ∷ [])

abbrev empty_handed : State
empty_handed = without (2 ∷ []) (acted (choosing 1 [] returns_zero) 9988 back_again)

drops_block : Step native_load back_again (quiet (entry.Drop 1 2)) empty_handed
drops_block = quietly refl
    (inr (
      2,
      acts _ 9989 (choosing 1 (2 ∷ []) (action.Drop 2)) (choosing 1 [] returns_zero) refl refl refl
          (returns_zero, refl, record { method = _; row = refl; suits = refl; all = λ o. refl })
          refl,
    ))
    refl refl

abbrev returned : State
returned = with_thread (after_return 1 9988 (thread 9988 0 []) (value.Num 0 ∷ []) empty_handed) 1 (thread 9987 1 [])

returns : Step native_load empty_handed (quiet (entry.Ret 1 1 (value.Num 0 ∷ []))) returned
returns = quietly refl
    (record { thread = thread 9988 0 []; fuel = 9988; frame = _; of = refl; wants = refl; call = refl; replies = record { thread = thread 9987 0 []; of = refl; becomes = refl } })
    refl refl

-- the client kills the disk's driver, and calls again
abbrev killed : State
killed = ended 1 (with_thread returned 1 (thread 9999 2 []))

kills : Step native_load returned (quiet (entry.Kill 1 1)) killed
kills = quietly refl (record { thread = thread 9987 1 []; target = 1; of = refl; wants = refl; inside = refl; becomes = refl }) refl refl

abbrev asks_size : Action
asks_size = action.Call 1 0 []

abbrev called_again : State
called_again = call_entered 1 4 2 [] (choosing 4 [] asks_size) (with_thread killed 1 (thread 9999 2 []))

calls_again : Step native_load killed (quiet (entry.Call 1 4 2 2 0 [])) called_again
calls_again = quietly refl
    (record {
      charged = _;
      frame = choosing 4 [] asks_size;
      wants = refl;
      unrefused = refl;
      into = refl;
      lives = refl;
      number = refl;
      begins = record {
        is = refl;
        body = (
          refl,
          refl,
          record { import = 0; bound = refl; method = _; row = refl; suits = refl; moves = refl; lends = refl; once = refl; apart = refl; room = lit≤ tt },
        );
      };
      becomes = refl;
    })
    refl refl

-- the call of the disk is refused, and the body traps
abbrev charged : State
charged = with_top 1 (choosing 4 [] asks_size) (with_thread called_again 1 (thread 9998 2 []))

abbrev refused : State
refused = with_top 1 (choosing 4 [] (action.Trap cause.Io)) (numbered 5 charged)

refuses : Step native_load called_again (quiet (entry.Refuse 1 5 code.Gone 1 0 [])) refused
refuses = quietly refl
    (record {
      charged = charged;
      wants = refl;
      refused = refl;
      number = refl;
      replies = record { frame = choosing 4 [] (action.Trap cause.Io); answers = (action.Trap cause.Io, refl, refl); becomes = refl };
    })
    refl refl

abbrev trapped : State
trapped = ended 2 (with_thread refused 1 (thread 9998 2 []))

traps : Step native_load refused (quiet (entry.Trap 1 2 cause.Io)) trapped
traps = quietly refl (record { thread = thread 9998 2 []; fuel = 9998; frame = _; of = refl; wants = refl; inside = refl; becomes = refl }) refl refl

-- the call is unwound, and the script has ended
abbrev unwound : State
unwound = with_thread (popped 1 trapped) 1 (thread 9998 3 [])

is_unwound : Step native_load trapped (quiet (entry.Unwound 1 4)) unwound
is_unwound = unwinds (choosing 4 [] (action.Trap cause.Io)) refl refl refl refl refl (record { thread = thread 9998 2 []; of = refl; becomes = refl }) refl refl

ends : Step native_load unwound (quiet (entry.Done 1)) native_end
ends = finishes _ refl refl refl refl refl refl

done : AllDone native_end
done zero d lt = refl
done (suc k) d lt = absurd (omega arith)

pub native_over_driver_is_worked : IsNativeOverDriver
unfolding digits
native_over_driver_is_worked = worked
    (goes_on 0 (goes_on 0 (goes_on 0 (goes_on 0 (goes_on 0 (goes_on 0 (goes_on 0 (goes_on 0 (goes_on 0 (goes_on 0 (goes_on 0 (goes_on 0 (goes_on 0 (goes_on 0 (goes_on 0 (goes_on 0 (goes_on 0 (goes_on 0 (goes_on 0 none_yet calls refl) makes refl) sets refl) calls_disk refl) writes refl) comes_back refl) drops refl) calls_disk_again refl) makes_block refl) reads refl) comes_back_again refl) drops_block refl) returns refl) kills refl) calls_again refl) refuses refl) traps refl) is_unwound refl) ends refl)
    done
    refl
    refl
