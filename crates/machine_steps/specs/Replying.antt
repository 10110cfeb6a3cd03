-- Who called gets the answer of a call that has ended, in each part of the machine.
use Rattle.std.specs.Prelude.{◌≡◌, ℕ, [], ◌∷◌, ◌++◌, List, Option, Some, None, true, if◌then◌else◌}
use Rattle.std.specs.Option.{option_map_or}
use Rattle.machine_defs.specs.declared.values.Owner.{Owner}
use Rattle.machine_defs.specs.declared.values.Owner.TheVariants as owner
use Rattle.machine_defs.specs.declared.frame.Answer.{Answer}
use Rattle.rl_defs.specs.declared.load.LoadRows.{LoadRows}
use Rattle.rl_defs.specs.Rows.{row}
use Rattle.machine_defs.specs.State.{Instance, StackFrame, Thread, lives}
use Rattle.machine_defs.specs.Seen.{change_row}
use Rattle.machine_defs.specs.CodeFits.{stand_of}
use Rattle.machine_defs.specs.Frames.{with_body, code_at, answered_code, after_command, results_in}
use Rattle.code_machine.specs.Fitting.{Awaits}
use Rattle.trampolines.specs.Words.{top, below_top, stack_of, with_stack_of, is_code}
use Rattle.machine_steps.specs.Acting.{domain_in}

-- who acts for client t: the instance of its top frame, or the client where it has no frame
abbrev pub actor_in : List (List StackFrame) → ℕ → Owner
actor_in stacks t = option_map_or (λ f. owner.Instance f.instance) (top (stack_of stacks t)) (owner.Client t)

-- the frame goes on from an answer to what its line asked for
abbrev pub told_frame : LoadRows → List Instance → Answer → StackFrame → StackFrame
told_frame L instances a f = with_body f (code_at (answered_code (domain_in L instances f.instance) (stand_of f.body) a))

-- the stacks, where client t's top frame has its answer. A frame of an instance that has ended gets
-- nothing.
abbrev pub told_stacks : LoadRows → List Instance → ℕ → Answer → List (List StackFrame) → Option StackFrame → List (List StackFrame)
told_stacks L instances t a stacks None = stacks
told_stacks L instances t a stacks (Some f) =
    if lives (row instances f.instance) then with_stack_of stacks t (below_top (stack_of stacks t) ++ told_frame L instances a f ∷ []) else stacks

-- the threads, where client t that has no frame is done with its command: the command's names hold
-- the results
abbrev pub told_threads : LoadRows → ℕ → Answer → List Thread → Option StackFrame → List Thread
told_threads L t a threads None = change_row threads t (λ x. after_command L t x (results_in a)) (row threads t)
told_threads L t a threads (Some f) = threads

-- A frame of a live instance is one of domain code that awaits the answer.
abbrev pub MayBeTold : LoadRows → List Instance → Answer → StackFrame → Type 0
MayBeTold L instances a f = lives (row instances f.instance) ≡ true → (is_code f.body ≡ true) × Awaits (domain_in L instances f.instance) (stand_of f.body) a
