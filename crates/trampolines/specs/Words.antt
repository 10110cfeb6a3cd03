-- The words of the machine's state on frames, for frames of any native body.
use Rattle.std.specs.Prelude.{◌≡◌, ◌≢◌, ℕ, ◌+◌, ◌-◌, ◌==◌, ◌&&◌, ◌||◌, [], ◌∷◌, ◌++◌, Bool, false, true, not, List, Option, Some, None, slice_set}
use Rattle.std.specs.List.{list_any}
use Rattle.machine_defs.specs.declared.frame.FrameBody.TheVariants as body
use Rattle.machine_defs.specs.declared.frame.FrameBody.{FrameBody}
use Rattle.machine_defs.specs.declared.frame.Frame.{Frame}
use Rattle.rl_defs.specs.declared.values.Value.{Value}
use Rattle.rl_defs.specs.Domains.{row}

-- the newest frame of a stack, and the frames below it
abbrev pub top : {N : Type 0} → List (Frame N) → Option (Frame N)
top [] = None
top (f ∷ []) = Some f
top (f ∷ (g ∷ fs)) = top (g ∷ fs)

abbrev pub below_top : {N : Type 0} → List (Frame N) → List (Frame N)
below_top [] = []
below_top (f ∷ []) = []
below_top (f ∷ (g ∷ fs)) = f ∷ below_top (g ∷ fs)

-- the stack of a client, of whom there may be none of this number
abbrev pub frames_of : {N : Type 0} → Option (List (Frame N)) → List (Frame N)
frames_of None = []
frames_of (Some frames) = frames

abbrev pub stack_of : {N : Type 0} → List (List (Frame N)) → ℕ → List (Frame N)
stack_of stacks t = frames_of (row stacks t)

-- all stacks, with this one of a client
abbrev pub with_stack_of : {N : Type 0} → List (List (Frame N)) → ℕ → List (Frame N) → List (List (Frame N))
with_stack_of stacks t frames = slice_set stacks (t - 1) frames

-- a stack has a frame in the instance; a client other than `but` has one, where the stacks are
-- those from client k on
abbrev pub is_in : {N : Type 0} → ℕ → List (Frame N) → Bool
is_in i frames = list_any (λ f. f.instance == i) frames

abbrev pub others_in : {N : Type 0} → ℕ → ℕ → ℕ → List (List (Frame N)) → Bool
others_in i but k [] = false
others_in i but k (frames ∷ stacks) = (not (k == but) && is_in i frames) || others_in i but (k + 1) stacks

-- client t, who isn't `but`, has a frame in the instance
abbrev pub Holds : {N : Type 0} → ℕ → ℕ → List (List (Frame N)) → ℕ → Type 0
Holds i but stacks t = (t ≢ but) × (is_in i (stack_of stacks t) ≡ true)

-- the frame is one of domain code
abbrev pub is_code : {N : Type 0} → FrameBody N → Bool
is_code (body.Code at registers) = true
is_code (body.Native held next) = false

abbrev pub stands_in_code : {N : Type 0} → Option (Frame N) → Bool
stands_in_code None = false
stands_in_code (Some f) = is_code f.body

-- the frame stands at this line with these registers
abbrev pub standing_at : {N : Type 0} → ℕ → List (Option Value) → Frame N → Frame N
standing_at at registers f = record f { body = body.Code at registers }

abbrev pub top_standing_at : {N : Type 0} → ℕ → List (Option Value) → List (Frame N) → Option (Frame N) → List (Frame N)
top_standing_at at registers frames None = frames
top_standing_at at registers frames (Some f) = below_top frames ++ standing_at at registers f ∷ []
