-- Counts of the frames that stand in each instance.
use Rattle.std.specs.Prelude.{◌≡◌, ℕ, ◌+◌, ◌==◌, ◌<◌, ◌≤◌, ◌^◌, [], ◌∷◌, List, All, length, if◌then◌else◌}
use Rattle.std.specs.Option.{unwrap_or}
use Rattle.machine_defs.specs.declared.frame.Frame.{Frame}
use Rattle.rl_defs.specs.Domains.{row}

-- how many frames of a stack, and of all stacks, are in an instance
abbrev pub count_in : {N : Type 0} → ℕ → List (Frame N) → ℕ
count_in i [] = 0
count_in i (f ∷ frames) = (if f.instance == i then 1 else 0) + count_in i frames

abbrev pub count_in_all : {N : Type 0} → ℕ → List (List (Frame N)) → ℕ
count_in_all i [] = 0
count_in_all i (frames ∷ stacks) = count_in i frames + count_in_all i stacks

-- each instance has its count of frames, and an instance that isn't counted has none
abbrev pub AreCounted : {N : Type 0} → List ℕ → List (List (Frame N)) → Type 0
AreCounted counts stacks = (i : ℕ) → count_in_all i stacks ≡ unwrap_or (row counts i) 0

-- The stacks beside their counts: none is higher than it may be, and no more clients are there than
-- have numbers.
pub record IsLaid {N : Type 0} (counts : List ℕ) (stacks : List (List (Frame N))) : Type 0 where
  pub counted : AreCounted counts stacks
  pub heights : All (λ frames. length frames ≤ 31) stacks
  pub clients : length stacks < 2 ^ 32
