-- What an instance asked of its disk and was answered, and the disk that this tells of. The newest
-- deed stands first.
use Rattle.std.specs.Prelude.{◌≡◌, ◌⊎◌, ℕ, ◌==◌, List, [], ◌∷◌, replicate, if◌then◌else◌, Contains}
use Rattle.file_defs.specs.DiskLayout.{BreaksLayout}

-- An answered call: `size` gave a count of blocks, `read` of a block gave cells, `write` put cells
-- into a block. Or a call that ended by an RpcError.
pub data Deed : Type 0 where
  GotSize : (count : ℕ) → Deed
  GotBlock : (block : ℕ) → (cells : List ℕ) → Deed
  PutBlock : (block : ℕ) → (cells : List ℕ) → Deed
  Failed : Deed

-- what a block holds: what the last `write` to it put, or zeros where there is none
abbrev pub left_by : List Deed → ℕ → List ℕ
left_by [] n = replicate 64 0
left_by (PutBlock block cells ∷ ds) n = if n == block then cells else left_by ds n
left_by (d ∷ ds) n = left_by ds n

-- The disk is honest: each `size` answered its count of blocks, and each `read` of a block gave what
-- that block held.
abbrev pub IsHonest : ℕ → List Deed → Type 0
IsHonest blocks [] = Unit {0}
IsHonest blocks (GotSize count ∷ ds) = (count ≡ blocks) × IsHonest blocks ds
IsHonest blocks (GotBlock n cells ∷ ds) = (cells ≡ left_by ds n) × IsHonest blocks ds
IsHonest blocks (d ∷ ds) = IsHonest blocks ds

-- the last answer of `size`; 0 before the first
abbrev pub last_size : List Deed → ℕ
last_size [] = 0
last_size (GotSize count ∷ ds) = count
last_size (d ∷ ds) = last_size ds

-- A cause of `io`: a call that failed, or a block that was read and breaks the layout, by the last
-- answer of `size` before that.
abbrev pub HasCause : List Deed → Type 0
HasCause [] = ⊥
HasCause (Failed ∷ ds) = Unit {0}
HasCause (GotBlock n cells ∷ ds) = BreaksLayout (last_size ds) n cells ⊎ HasCause ds
HasCause (d ∷ ds) = HasCause ds

-- one of the calls failed
abbrev pub HasFailed : List Deed → Type 0
HasFailed ds = Contains ds Failed
