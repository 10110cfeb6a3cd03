-- The run of the two clients that enter two serial loads in opposite orders, step by step.
use Rattle.std.proofs.Common.{ℕ, zero, suc, arith, List, [], ◌∷◌, Option, Some, None, refl, true}
use Rattle.std.specs.Fmt.{digits}
use Rattle.machine_defs.specs.declared.values.Arg.TheVariants as arg
use Rattle.rl_defs.specs.declared.values.Value.{Value}
use Rattle.rl_defs.specs.declared.values.Value.TheVariants as value
use Rattle.machine_defs.specs.declared.values.RpcCode.TheVariants as code
use Rattle.machine_defs.specs.declared.entry.Entry.TheVariants as entry
use Rattle.machine_defs.specs.State.{State, StackFrame, start, with_thread}
use Rattle.machine_defs.specs.Runs.{AllDone}
use Rattle.machine_defs.specs.Frames.{with_top}
use Rattle.machine_defs.specs.CallRows.{call_entered, numbered, after_return}
use Rattle.machine_defs.specs.Steps.{Step}
use Rattle.worked_runs.specs.Parts.{thread, frame_at, quiet}
use Rattle.worked_runs.specs.OppositeOrders.{opposite_orders, opposite_orders_end, IsOppositeOrders}
use Rattle.worked_runs.proofs.Turns.{none_yet, goes_on, worked}
use Rattle.worked_runs.proofs.Rows as rows

-- the frames of `go`: x's call of q with p, and y's call of p with q; and that of x's call of `leaf` in p
abbrev pub x_go : ℕ → List (Option Value) → StackFrame
x_go at values = frame_at 1 2 2 0 (arg.Cap 1 ∷ []) at values

abbrev pub y_go : ℕ → List (Option Value) → StackFrame
y_go at values = frame_at 2 1 1 0 (arg.Cap 2 ∷ []) at values

abbrev pub leaf : ℕ → List (Option Value) → StackFrame
leaf at values = frame_at 4 1 1 1 [] at values

abbrev pub first : State
first = start opposite_orders

abbrev pub x_called : State
x_called = call_entered 1 1 2 (arg.Cap 1 ∷ []) (x_go 2 (Some (value.Cap 1) ∷ [])) (with_thread first 1 (thread 9999 0 []))

x_calls : Step opposite_orders first (quiet (entry.Call 1 1 2 2 0 (arg.Cap 1 ∷ []))) x_called
x_calls = rows.enters (with_thread first 1 (thread 9999 0 [])) 2 refl refl refl refl refl refl refl refl refl refl refl

abbrev pub y_called : State
y_called = call_entered 2 2 1 (arg.Cap 2 ∷ []) (y_go 2 (Some (value.Cap 2) ∷ [])) (with_thread x_called 2 (thread 9999 0 []))

y_calls : Step opposite_orders x_called (quiet (entry.Call 2 2 1 1 0 (arg.Cap 2 ∷ []))) y_called
y_calls = rows.enters (with_thread x_called 2 (thread 9999 0 [])) 2 refl refl refl refl refl refl refl refl refl refl refl

-- y is in p, and may not enter q, whose rank is above p's: it goes on at its label with the code
abbrev pub charged : State
charged = with_top 2 (y_go 2 (Some (value.Cap 2) ∷ [])) (with_thread y_called 2 (thread 9998 0 []))

abbrev pub refused : State
refused = with_top 2 (y_go 5 (None ∷ None ∷ Some (value.Num 4) ∷ [])) (numbered 3 charged)

refuses : Step opposite_orders y_called (quiet (entry.Refuse 2 3 code.Order 2 1 [])) refused
refuses = rows.quietly refl
    (record { charged = charged; wants = refl; refused = refl; number = refl; replies = record { frame = y_go 5 (None ∷ None ∷ Some (value.Num 4) ∷ []); answers = refl; becomes = refl } })
    refl refl

abbrev pub y_returned : State
y_returned = with_thread (after_return 2 9998 (thread 9998 0 []) (value.Num 4 ∷ []) refused) 2 (thread 9997 1 [])

y_returns : Step opposite_orders refused (quiet (entry.Ret 2 2 (value.Num 4 ∷ []))) y_returned
y_returns =
    rows.returns (thread 9998 0 []) 9998 (y_go 5 (None ∷ None ∷ Some (value.Num 4) ∷ [])) refl refl refl refl (record { thread = thread 9997 0 []; of = refl; becomes = refl }) refl refl

-- p is free now, and x enters it
abbrev pub x_charged : State
x_charged = with_top 1 (x_go 2 (Some (value.Cap 1) ∷ [])) (with_thread y_returned 1 (thread 9998 0 []))

abbrev pub leaf_called : State
leaf_called = call_entered 1 4 1 [] (leaf 8 []) x_charged

leaf_calls : Step opposite_orders y_returned (quiet (entry.Call 1 4 1 1 1 [])) leaf_called
leaf_calls = rows.enters x_charged 8 refl refl refl refl refl refl refl refl refl refl refl

abbrev pub y_done : State
y_done = with_thread leaf_called 2 (record (thread 9997 1 []) { done = true })

y_ends : Step opposite_orders leaf_called (quiet (entry.Done 2)) y_done
y_ends = rows.finishes _ refl refl refl refl refl refl

abbrev pub leaf_returned : State
leaf_returned = with_top 1 (x_go 3 (Some (value.Cap 1) ∷ Some (value.Num 9) ∷ [])) (after_return 1 9997 (thread 9998 0 []) (value.Num 9 ∷ []) y_done)

leaf_returns : Step opposite_orders y_done (quiet (entry.Ret 1 4 (value.Num 9 ∷ []))) leaf_returned
leaf_returns =
    rows.returns (thread 9998 0 []) 9997 (leaf 9 (Some (value.Num 9) ∷ [])) refl refl refl refl (record { frame = x_go 3 (Some (value.Cap 1) ∷ Some (value.Num 9) ∷ []); answers = refl; becomes = refl }) refl refl

abbrev pub x_returned : State
x_returned = with_thread (after_return 1 9996 (thread 9996 0 []) (value.Num 9 ∷ []) leaf_returned) 1 (thread 9995 1 [])

x_returns : Step opposite_orders leaf_returned (quiet (entry.Ret 1 1 (value.Num 9 ∷ []))) x_returned
x_returns =
    rows.returns (thread 9996 0 []) 9996 (x_go 3 (Some (value.Cap 1) ∷ Some (value.Num 9) ∷ [])) refl refl refl refl (record { thread = thread 9995 0 []; of = refl; becomes = refl }) refl refl

x_ends : Step opposite_orders x_returned (quiet (entry.Done 1)) opposite_orders_end
x_ends = rows.finishes _ refl refl refl refl refl refl

done : AllDone opposite_orders_end
done zero d lt = refl
done (suc zero) d lt = refl
done (suc (suc k)) d lt = absurd (omega arith)

pub opposite_orders_is_worked : IsOppositeOrders
unfolding digits
opposite_orders_is_worked = worked
    (goes_on 1 (goes_on 1 (goes_on 1 (goes_on 0 (goes_on 1 (goes_on 0 (goes_on 0 (goes_on 0 (goes_on 1 none_yet x_calls refl) y_calls refl) refuses refl) y_returns refl)
    leaf_calls refl) y_ends refl) leaf_returns refl) x_returns refl) x_ends refl)
    done
    refl
    refl
