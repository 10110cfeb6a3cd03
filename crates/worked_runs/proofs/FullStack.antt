-- The run of the domain that calls itself until the stack is full. Its 31 calls are one lemma, and so are the returns: what is asked of each
-- step is worked out for all of them at once.
use Rattle.std.proofs.Common.{◌≡◌, ℕ, zero, suc, ◌-◌, arith, Bool, true, List, [], ◌∷◌, ◌++◌, Option, Some, None, refl, sym, ap, subst}
use Rattle.std.specs.Fmt.{digits}
use Rattle.rl_defs.specs.declared.values.Value.{Value}
use Rattle.rl_defs.specs.declared.values.Value.TheVariants as value
use Rattle.machine_defs.specs.declared.values.RpcCode.{RpcCode}
use Rattle.machine_defs.specs.declared.values.RpcCode.TheVariants as code
use Rattle.machine_defs.specs.declared.frame.Action.TheVariants as action
use Rattle.machine_defs.specs.declared.frame.Answer.TheVariants as answer
use Rattle.machine_defs.specs.declared.entry.Entry.{Entry}
use Rattle.machine_defs.specs.declared.entry.Entry.TheVariants as entry
use Rattle.machine_defs.specs.State.{State, StackFrame, stack, start, top, with_thread}
use Rattle.machine_defs.specs.Calling.{Wish, is_enabled, refusal, wish}
use Rattle.machine_defs.specs.Wants.{Want, Acts, wanted}
use Rattle.machine_defs.specs.Frames.{AnswersTop, with_top}
use Rattle.machine_defs.specs.CallRows.{after_return, call_entered, numbered}
use Rattle.machine_defs.specs.Runs.{AllDone, Ordered, next_turn}
use Rattle.machine_defs.specs.Steps.{Step}
use Rattle.worked_runs.specs.Parts.{thread, frame_at, quiet}
use Rattle.worked_runs.specs.FullStack.{full_stack, full_stack_end, itself, calls_itself, returns_code, IsFullStack}
use Rattle.worked_runs.proofs.Turns.{none_yet, goes_on, worked}
use Rattle.worked_runs.proofs.Rows.{quietly, enters, finishes}

-- the values of a function at n - 1 to 0. Where they are those of another one, so is each.
abbrev table : {A : Type 0} → (ℕ → A) → ℕ → List A
table f zero = []
table f (suc n) = f n ∷ table f n

first_same : {A : Type 0} {x y : A} {xs ys : List A} → x ∷ xs ≡ y ∷ ys → x ≡ y
first_same same = cc

others_same : {A : Type 0} {x y : A} {xs ys : List A} → x ∷ xs ≡ y ∷ ys → xs ≡ ys
others_same same = cc

-- call c: as it begins and waits, and where its own call has returned
abbrev waiting : ℕ → StackFrame
waiting c = frame_at c 1 1 0 itself 2 (Some (value.Cap 1) ∷ [])

abbrev answered : ℕ → StackFrame
answered c = frame_at c 1 1 0 itself 3 (Some (value.Cap 1) ∷ Some (value.Num 3) ∷ [])

-- the frames of calls 1 to n
abbrev frames : ℕ → List StackFrame
frames zero = []
frames (suc n) = frames n ++ waiting (suc n) ∷ []

-- the states by their one stack, their fuel and the calls so far
abbrev state : List StackFrame → ℕ → ℕ → State
state frames fuel calls = record (start full_stack) { stacks = frames ∷ []; threads = thread fuel 0 [] ∷ []; next_call = suc calls }

-- n calls are open, of 31
abbrev fuel_in : ℕ → ℕ
fuel_in zero = 0
fuel_in (suc n) = 9999 - n

abbrev within : ℕ → State
within n = state (frames n) (fuel_in n) n

abbrev charged : ℕ → State
charged n = state (frames n) (9999 - n) n

-- what is asked of such a state for one call more, and what is found
record Before : Type 0 where
  enabled : Bool
  turn : Option (ℕ × ℕ)
  wished : Option Wish
  refused : Option RpcCode
  becomes : State

abbrev asked : ℕ → Before
asked n = record {
  enabled = is_enabled full_stack (within n) 1;
  turn = next_turn full_stack (within n) 0;
  wished = wish full_stack (within n) 1;
  refused = refusal full_stack (within n) 1 1;
  becomes = within (suc n);
}

abbrev found : ℕ → Before
found n = record {
  enabled = true;
  turn = Some (1, 0);
  wished = Some (record { target = 1; method = 0; args = itself; charged = charged n });
  refused = None;
  becomes = call_entered 1 (suc n) 1 itself (waiting (suc n)) (charged n);
}

abbrev calls_to : ℕ → List Entry
calls_to zero = []
calls_to (suc n) = calls_to n ++ calls_itself (suc n) ∷ []

calls : (n : ℕ) → asked n ≡ found n → Step full_stack (within n) (quiet (calls_itself (suc n))) (within (suc n))
calls n same =
    enters (charged n) 2 (ap (λ x. x.enabled) same) (ap (λ x. x.wished) same) (ap (λ x. x.refused) same) refl refl refl refl refl (ap (λ x. x.becomes) same) refl refl

descends : (n : ℕ) → table asked n ≡ table found n → Ordered full_stack (start full_stack) (calls_to n) (within n) 0
descends zero same = none_yet
descends (suc n) same = goes_on 0 (descends n (others_same same)) (calls n (first_same same)) (ap (λ x. x.turn) (first_same same))

-- The 32nd call is refused, and the 31st stands behind the head of its label then.
abbrev refused : State
refused = with_top 1 (frame_at 31 1 1 0 itself 5 (None ∷ None ∷ Some (value.Num 3) ∷ [])) (numbered 32 (state (frames 31) 9968 31))

refuses : Step full_stack (within 31) (quiet (entry.Refuse 1 32 code.Deep 1 0 itself)) refused
refuses = quietly refl
    (record {
      charged = state (frames 31) 9968 31;
      wants = refl;
      refused = refl;
      number = refl;
      replies = record { frame = frame_at 31 1 1 0 itself 5 (None ∷ None ∷ Some (value.Num 3) ∷ []); answers = refl; becomes = refl };
    })
    refl refl

-- the 31st returns, and n others: 30 - n are open, and the newest of them would return
abbrev three : List Value
three = value.Num 3 ∷ []

abbrev without_newest : ℕ → State
without_newest n = state (frames (29 - n) ++ answered (30 - n) ∷ []) (9967 - n) 32

-- such a call has just returned
abbrev popped_newest : ℕ → State
popped_newest n = after_return 1 (9967 - n) (thread (9967 - n) 0 []) three (without_newest n)

returns_first : Step full_stack refused (quiet (returns_code 31)) (without_newest 0)
returns_first = quietly refl
    (record {
      thread = thread 9968 0 [];
      fuel = 9968;
      frame = _;
      of = refl;
      wants = refl;
      call = refl;
      replies = record { frame = answered 30; answers = refl; becomes = refl };
    })
    refl refl

-- what is asked of such a state for one return more, and what is found
record BeforeReturn : Type 0 where
  enabled : Bool
  turn : Option (ℕ × ℕ)
  wants : Want
  caller : Option StackFrame
  becomes : State

abbrev asked_of_return : ℕ → BeforeReturn
asked_of_return n = record {
  enabled = is_enabled full_stack (without_newest n) 1;
  turn = next_turn full_stack (without_newest n) 0;
  wants = wanted full_stack (without_newest n) 1;
  caller = top (stack (popped_newest n) 1);
  becomes = without_newest (suc n);
}

abbrev found_of_return : ℕ → BeforeReturn
found_of_return n = record {
  enabled = true;
  turn = Some (1, 0);
  wants = Acts (action.Ret three) (9967 - n) (answered (30 - n));
  caller = Some (waiting (29 - n));
  becomes = with_top 1 (answered (29 - n)) (popped_newest n);
}

abbrev returns_to : ℕ → List Entry
returns_to zero = (calls_to 31 ++ entry.Refuse 1 32 code.Deep 1 0 itself ∷ []) ++ returns_code 31 ∷ []
returns_to (suc n) = returns_to n ++ returns_code (30 - n) ∷ []

returns : (n : ℕ) → asked_of_return n ≡ found_of_return n → Step full_stack (without_newest n) (quiet (returns_code (30 - n))) (without_newest (suc n))
returns n same = quietly (ap (λ x. x.enabled) same)
    (record {
      thread = thread (9967 - n) 0 [];
      fuel = 9967 - n;
      frame = answered (30 - n);
      of = refl;
      wants = ap (λ x. x.wants) same;
      call = refl;
      replies = subst (λ caller. AnswersTop full_stack (popped_newest n) 1 (answer.Back three) caller (without_newest (suc n))) (sym (ap (λ x. x.caller) same))
          (record { frame = answered (29 - n); answers = refl; becomes = ap (λ x. x.becomes) same });
    })
    refl refl

ascends : (n : ℕ) → table asked_of_return n ≡ table found_of_return n → Ordered full_stack (start full_stack) (returns_to n) (without_newest n) 0
ascends zero same = goes_on 0 (goes_on 0 (descends 31 refl) refuses refl) returns_first refl
ascends (suc n) same = goes_on 0 (ascends n (others_same same)) (returns n (first_same same)) (ap (λ x. x.turn) (first_same same))

-- the first call returns to the client, whose script has ended
abbrev home : State
home = with_thread (after_return 1 9938 (thread 9938 0 []) three (without_newest 29)) 1 (thread 9937 1 [])

comes_home : Step full_stack (without_newest 29) (quiet (returns_code 1)) home
comes_home = quietly refl
    (record { thread = thread 9938 0 []; fuel = 9938; frame = _; of = refl; wants = refl; call = refl; replies = record { thread = thread 9937 0 []; of = refl; becomes = refl } })
    refl refl

ends : Step full_stack home (quiet (entry.Done 1)) full_stack_end
ends = finishes _ refl refl refl refl refl refl

done : AllDone full_stack_end
done zero d lt = refl
done (suc k) d lt = absurd (omega arith)

pub full_stack_is_worked : IsFullStack
unfolding digits
full_stack_is_worked = worked (goes_on 0 (goes_on 0 (ascends 29 refl) comes_home refl) ends refl) done refl refl
