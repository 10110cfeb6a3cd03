-- The stack of a client that is set, and set again.
use Rattle.std.proofs.Common.{◌≡◌, ℕ, zero, suc, ◌-◌, ◌<◌, ◌≤◌, List, [], ◌∷◌, ◌++◌, length, slice_set, Option, Some, refl, ap, sym, ◌∙◌, arith}
use Rattle.std.specs.Option.{unwrap_or}
use Rattle.std.proofs.lemmas.List.{length-set}
use Rattle.rl_defs.specs.Rows.{row}
use Rattle.machine_defs.specs.State.{StackFrame, stack, State}
use Rattle.machine_defs.specs.Frames.{below_top}
use Rattle.machine_laws.proofs.Rows.{row_set_same}
use Rattle.trampolines.specs.Words as words
use Rattle.trampolines.proofs.Agreeing.{same_below, same_frames}

-- the last of two settings counts
pub set_over : {A : Type 0} (xs : List A) (n : ℕ) (a b : A) → slice_set (slice_set xs n a) n b ≡ slice_set xs n b
set_over [] n a b = refl
set_over (x ∷ xs) zero a b = refl
set_over (x ∷ xs) (suc n) a b = ap (λ ys. x ∷ ys) (set_over xs n a b)

-- a stack that is set is the one that was given
pub stack_set : (stacks : List (List StackFrame)) (t : ℕ) (fs : List StackFrame) → (0 < t) × (t ≤ length stacks) → words.stack_of (words.with_stack_of stacks t fs) t ≡ fs
stack_set stacks t fs within = ap words.frames_of (row_set_same stacks t fs within.0 within.1)

-- the frames that are put on a stack that was set before
pub pushed_on : (stacks mid after : List (List StackFrame)) (t : ℕ) (fs : List StackFrame) (f : StackFrame) → (0 < t) × (t ≤ length stacks) → mid ≡ words.with_stack_of stacks t fs
    → after ≡ words.with_stack_of mid t (words.stack_of mid t ++ f ∷ []) → after ≡ words.with_stack_of stacks t (fs ++ f ∷ [])
pushed_on stacks mid after t fs f within set pushed =
    pushed ∙ ap (λ (m : List (List StackFrame)). words.with_stack_of m t (words.stack_of m t ++ f ∷ [])) set
    ∙ ap (λ gs. words.with_stack_of (words.with_stack_of stacks t fs) t (gs ++ f ∷ [])) (stack_set stacks t fs within)
    ∙ set_over stacks (t - 1) fs (fs ++ f ∷ [])

-- the frames below the top one are those of the state
pub below_is : (stacks : List (List StackFrame)) (t : ℕ) → words.below_top (words.stack_of stacks t) ≡ below_top (Rattle.machine_defs.specs.State.frames_of (row stacks t))
below_is stacks t = same_below (words.stack_of stacks t) ∙ ap below_top (same_frames (row stacks t))

-- a client stays one
pub still_client : (stacks after : List (List StackFrame)) (t : ℕ) (fs : List StackFrame) → after ≡ words.with_stack_of stacks t fs → (0 < t) × (t ≤ length stacks) → (0 < t) × (t ≤ length after)
still_client stacks after t fs is within = (within.0, (let n : length after ≡ length (words.with_stack_of stacks t fs) = ap length is in omega (arith, n, length-set stacks (t - 1) fs, within.1)))

-- what is there is one frame
pub one_frame : {x : Option StackFrame} (f g : StackFrame) → x ≡ Some f → x ≡ Some g → f ≡ g
one_frame f g here there = ap (λ (o : Option StackFrame). unwrap_or o f) (sym here ∙ there)
