-- The words on frames of any body are those of the machine's state.
use Rattle.std.proofs.Common.{◌≡◌, ◌∙◌, ℕ, ◌+◌, ◌-◌, ◌==◌, ◌&&◌, ◌||◌, List, [], ◌∷◌, Option, Some, None, Bool, not, length, refl, ap, sym, arith}
use Rattle.machine_defs.specs.State.{StackFrame}
use Rattle.machine_defs.specs.State as state
use Rattle.machine_defs.specs.Frames as frames
use Rattle.machine_defs.specs.Calling as calling
use Rattle.rl_defs.specs.Domains.{row}
use Rattle.trampolines.specs.Words as words

pub same_top : (fs : List StackFrame) → words.top fs ≡ state.top fs
same_top [] = refl
same_top (f ∷ []) = refl
same_top (f ∷ (g ∷ fs)) = same_top (g ∷ fs)

pub same_below : (fs : List StackFrame) → words.below_top fs ≡ frames.below_top fs
same_below [] = refl
same_below (f ∷ []) = refl
same_below (f ∷ (g ∷ fs)) = ap (λ (rest : List StackFrame). f ∷ rest) (same_below (g ∷ fs))

pub same_frames : (o : Option (List StackFrame)) → words.frames_of o ≡ state.frames_of o
same_frames None = refl
same_frames (Some fs) = refl

pub same_others : (i but k : ℕ) (stacks : List (List StackFrame)) → words.others_in i but k stacks ≡ calling.others_in i but k stacks
same_others i but k [] = refl
same_others i but k (fs ∷ stacks) =
    ap (λ (b : Bool). (not (k == but) && calling.is_in i fs) || b) (same_others i but (k + 1) stacks)

pub same_height : (stacks all : List (List StackFrame)) (t depth less : ℕ) → all ≡ stacks → depth ≡ length (words.stack_of stacks t) + 1
    → less ≡ depth - 1 → less ≡ length (state.frames_of (row all t))
same_height stacks all t depth less same height is =
    let there : length (words.stack_of stacks t) ≡ length (state.frames_of (row all t)) =
    ap (λ (xs : List StackFrame). length xs) (same_frames (row stacks t))
    ∙ ap (λ (xs : List (List StackFrame)). length (state.frames_of (row xs t))) (sym same) in
    omega arith
