-- The run of the domain that keeps what it is told, step by step.
use Rattle.std.proofs.Common.{ℕ, zero, suc, arith, List, [], ◌∷◌, refl, inr, Option, Some, None, codes}
use Rattle.std.specs.Fmt.{digits}
use Rattle.rl_defs.specs.declared.values.Value.{Value}
use Rattle.rl_defs.specs.declared.values.Value.TheVariants as value
use Rattle.machine_defs.specs.declared.values.Arg.TheVariants as arg
use Rattle.machine_defs.specs.declared.values.Owner.TheVariants as owner
use Rattle.machine_defs.specs.declared.entry.Entry.TheVariants as entry
use Rattle.machine_defs.specs.State.{State, StackFrame, Thread, Hung, Root, start, with_thread}
use Rattle.machine_defs.specs.Loans.{object_of}
use Rattle.machine_defs.specs.Runs.{AllDone}
use Rattle.machine_defs.specs.Objects.{with_new, without, with_cells_of, overwritten, cells_in, placed}
use Rattle.machine_defs.specs.Seen.{with_slot, with_word}
use Rattle.machine_defs.specs.Frames.{with_top}
use Rattle.machine_defs.specs.CallRows.{call_entered, after_return}
use Rattle.machine_defs.specs.ObjectRows.{block, instead, with_block}
use Rattle.machine_defs.specs.Steps.{Step}
use Rattle.worked_runs.specs.Parts.{thread, frame_at, quiet}
use Rattle.worked_runs.specs.KeptInStore.{kept_load, kept_end, IsKeptInStore}
use Rattle.worked_runs.proofs.Turns.{none_yet, goes_on, worked}
use Rattle.worked_runs.proofs.Rows.{quietly, enters, acts, finishes}

abbrev object : ℕ → Option Value
object o = Some (value.Obj o)

abbrev number : ℕ → Option Value
number n = Some (value.Num n)

-- the client's one name holds nothing yet
abbrev unbound : ℕ → ℕ → Thread
unbound fuel place = thread fuel place (None ∷ [])

-- the two calls, at a line with these registers: the first one's r0 is 3
abbrev saving : ℕ → List (Option Value) → StackFrame
saving at values = frame_at 1 1 1 0 (arg.Num 3 ∷ []) at (number 3 ∷ values)

abbrev opening : ℕ → List (Option Value) → StackFrame
opening at values = frame_at 2 1 1 1 [] at values

-- the frame has acted: how it stands then, with what fuel, in the client's command at this place
abbrev acted : StackFrame → ℕ → ℕ → State → State
acted f fuel place s = with_top 1 f (with_thread s 1 (unbound fuel place))

-- the first call
abbrev before : State
before = start kept_load

abbrev called : State
called = call_entered 1 1 1 (arg.Num 3 ∷ []) (saving 4 []) (with_thread before 1 (unbound 9999 0))

calls : Step kept_load before (quiet (entry.Call 1 1 1 1 0 (arg.Num 3 ∷ []))) called
calls = enters _ 4 refl refl refl refl refl refl refl refl refl refl refl

-- it makes a block object, sets cell 1, and writes it to the device
abbrev made_block : State
made_block = with_new kept_load 0 (owner.Instance 1) [] (acted (saving 5 (object 1 ∷ [])) 9998 0 called)

makes_block : Step kept_load called (quiet (entry.New 1 (owner.Instance 1) 1 0 [])) made_block
makes_block = quietly refl (record { number = refl; makes = inr (record { inside = 1; mine = refl; blank = refl; does = acts _ 9999 _ (saving 5 (object 1 ∷ [])) refl refl refl refl refl }) }) refl refl

abbrev filled : State
filled = with_cells_of 1 (overwritten 1 (3 ∷ [])) (acted (saving 7 (object 1 ∷ number 1 ∷ [])) 9996 0 made_block)

sets : Step kept_load made_block (quiet (entry.Set 1 1 1 (3 ∷ []))) filled
sets = quietly refl (1, acts _ 9997 _ (saving 7 (object 1 ∷ number 1 ∷ [])) refl refl refl refl refl) refl refl

abbrev wrote : State
wrote = with_block 3 (cells_in (object_of filled 1)) (acted (saving 8 (object 1 ∷ number 1 ∷ [])) 9995 0 filled)

writes : Step kept_load filled (quiet (entry.DevPut 1 3 1)) wrote
writes = quietly refl (1, acts _ 9996 _ (saving 8 (object 1 ∷ number 1 ∷ [])) refl refl refl refl refl) refl refl

-- it makes a folder, hangs the block into it, and puts it into the slot
abbrev made_folder : State
made_folder = with_new kept_load 1 (owner.Instance 1) [] (acted (saving 9 (object 1 ∷ number 1 ∷ object 2 ∷ [])) 9994 0 wrote)

makes_folder : Step kept_load wrote (quiet (entry.New 1 (owner.Instance 1) 2 1 [])) made_folder
makes_folder = quietly refl (record { number = refl; makes = inr (record { inside = 1; mine = refl; blank = refl; does = acts _ 9995 _ (saving 9 (object 1 ∷ number 1 ∷ object 2 ∷ [])) refl refl refl refl refl }) }) refl refl

abbrev hung : State
hung = placed 1 (Hung 2 0) (acted (saving 10 (None ∷ number 1 ∷ object 2 ∷ [])) 9993 0 made_folder)

hangs : Step kept_load made_folder (quiet (entry.Hang 1 2 0 1)) hung
hangs = quietly refl (record { inside = 1; empty = refl; does = acts _ 9994 _ (saving 10 (None ∷ number 1 ∷ object 2 ∷ [])) refl refl refl refl refl }) refl refl

abbrev put : State
put = with_slot 1 0 (Some 2) (acted (saving 11 (None ∷ number 1 ∷ [])) 9992 0 hung)

puts : Step kept_load hung (quiet (entry.Put 1 1 (codes "kept") 2)) put
puts = quietly refl (record { place = 0; named = refl; empty = refl; does = acts _ 9993 _ (saving 11 (None ∷ number 1 ∷ [])) refl refl refl refl refl }) refl refl

-- it writes the word, and returns
abbrev noted : State
noted = with_word 1 0 3 (acted (saving 13 (None ∷ number 0 ∷ [])) 9990 0 put)

notes : Step kept_load put (quiet (entry.Wput 1 1 0 3)) noted
notes = quietly refl (acts _ 9991 _ (saving 13 (None ∷ number 0 ∷ [])) refl refl refl refl refl) refl refl

abbrev returned : State
returned = with_thread (after_return 1 9990 (unbound 9990 0) [] noted) 1 (unbound 9989 1)

returns : Step kept_load noted (quiet (entry.Ret 1 1 [])) returned
returns = quietly refl (record { thread = unbound 9990 0; fuel = 9990; frame = _; of = refl; wants = refl; call = refl; replies = record { thread = unbound 9989 0; of = refl; becomes = refl } }) refl refl

-- the second call
abbrev called_again : State
called_again = call_entered 1 2 1 [] (opening 16 []) (with_thread returned 1 (unbound 9999 1))

calls_again : Step kept_load returned (quiet (entry.Call 1 2 1 1 1 [])) called_again
calls_again = enters _ 16 refl refl refl refl refl refl refl refl refl refl refl

-- it takes the folder out of the slot and the block out of the folder, and drops both
abbrev taken : State
taken = with_slot 1 0 None (acted (opening 17 (object 2 ∷ [])) 9998 1 called_again)

takes : Step kept_load called_again (quiet (entry.Take 1 1 (codes "kept") 2)) taken
takes = quietly refl (record { place = 0; named = refl; full = refl; does = acts _ 9999 _ (opening 17 (object 2 ∷ [])) refl refl refl refl refl }) refl refl

abbrev unhung : State
unhung = placed 1 (Root (owner.Instance 1)) (acted (opening 18 (object 2 ∷ object 1 ∷ [])) 9997 1 taken)

unhangs : Step kept_load taken (quiet (entry.Unhang 1 2 0 1)) unhung
unhangs = quietly refl (record { inside = 1; full = refl; does = acts _ 9998 _ (opening 18 (object 2 ∷ object 1 ∷ [])) refl refl refl refl refl }) refl refl

abbrev one_left : State
one_left = without (2 ∷ []) (acted (opening 19 (None ∷ object 1 ∷ [])) 9996 1 unhung)

drops_folder : Step kept_load unhung (quiet (entry.Drop 1 2)) one_left
drops_folder = quietly refl (inr (1, acts _ 9997 _ (opening 19 (None ∷ object 1 ∷ [])) refl refl refl refl refl)) refl refl

abbrev none_left : State
none_left = without (1 ∷ []) (acted (opening 20 []) 9995 1 one_left)

drops_block : Step kept_load one_left (quiet (entry.Drop 1 1)) none_left
drops_block = quietly refl (inr (1, acts _ 9996 _ (opening 20 []) refl refl refl refl refl)) refl refl

-- it makes another block object, reads into it the block that the word names, and returns it
abbrev made_another : State
made_another = with_new kept_load 0 (owner.Instance 1) [] (acted (opening 21 (None ∷ None ∷ object 3 ∷ [])) 9994 1 none_left)

makes_another : Step kept_load none_left (quiet (entry.New 1 (owner.Instance 1) 3 0 [])) made_another
makes_another = quietly refl (record { number = refl; makes = inr (record { inside = 1; mine = refl; blank = refl; does = acts _ 9995 _ (opening 21 (None ∷ None ∷ object 3 ∷ [])) refl refl refl refl refl }) }) refl refl

abbrev read : State
read = with_cells_of 3 (instead (block made_another 3)) (acted (opening 24 (number 3 ∷ None ∷ object 3 ∷ [])) 9991 1 made_another)

reads : Step kept_load made_another (quiet (entry.DevGet 1 3 3)) read
reads = quietly refl (1, acts _ 9992 _ (opening 24 (number 3 ∷ None ∷ object 3 ∷ [])) refl refl refl refl refl) refl refl

abbrev bound : ℕ → ℕ → Thread
bound fuel place = thread fuel place (object 3 ∷ [])

abbrev handed : State
handed = with_thread (after_return 1 9991 (unbound 9991 1) (value.Obj 3 ∷ []) read) 1 (bound 9990 2)

hands : Step kept_load read (quiet (entry.Ret 1 2 (value.Obj 3 ∷ []))) handed
hands = quietly refl (record { thread = unbound 9991 1; fuel = 9991; frame = _; of = refl; wants = refl; call = refl; replies = record { thread = unbound 9990 1; of = refl; becomes = refl } }) refl refl

-- the client lists what it got, and its script has ended
abbrev shown : State
shown = with_thread handed 1 (bound 9999 3)

shows : Step kept_load handed (quiet (entry.Show 1 3 (value.Num 0 ∷ value.Num 3 ∷ []))) shown
shows = quietly refl (record { thread = bound 9990 2; name = 0; of = refl; object = refl; lists = refl; does = record { thread = bound 9990 2; of = refl; wants = refl; becomes = refl } }) refl refl

ends : Step kept_load shown (quiet (entry.Done 1)) kept_end
ends = finishes _ refl refl refl refl refl refl

done : AllDone kept_end
done zero d lt = refl
done (suc k) d lt = absurd (omega arith)

pub kept_in_store_is_worked : IsKeptInStore
unfolding digits
kept_in_store_is_worked = worked
    (goes_on 0 (goes_on 0 (goes_on 0 (goes_on 0 (goes_on 0 (goes_on 0 (goes_on 0 (goes_on 0 (goes_on 0 (goes_on 0 (goes_on 0 (goes_on 0 (goes_on 0 (goes_on 0 (goes_on 0 (goes_on 0 (goes_on 0 (goes_on 0 (goes_on 0 none_yet calls refl) makes_block refl) sets refl) writes refl) makes_folder refl) hangs refl) puts refl) notes refl) returns refl) calls_again refl) takes refl) unhangs refl) drops_folder refl) drops_block refl) makes_another refl) reads refl) hands refl) shows refl) ends refl)
    done
    refl
    refl
