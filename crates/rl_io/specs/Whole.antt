-- What reading to the end and giving all say of bytes, where they are told.
use Rattle.std.specs.Prelude.{ℕ, ◌<◌, ◌≤◌, List, length, take, Option}
use Rattle.std.specs.Io.KnownBytes.{Appends, Consumes}

-- some bytes came, at most so many
abbrev pub ConsumesAtMost : ℕ → Option (List ℕ) → Option (List ℕ) → Type 0
ConsumesAtMost limit old new = (bytes : List ℕ) × (length bytes ≤ limit) × Consumes old new bytes

-- more bytes came than so many
abbrev pub ConsumesMoreThan : ℕ → Option (List ℕ) → Option (List ℕ) → Type 0
ConsumesMoreThan limit old new = (bytes : List ℕ) × (limit < length bytes) × Consumes old new bytes

-- a front of the piece was given, and not all of it
abbrev pub AppendsShort : Option (List ℕ) → Option (List ℕ) → List ℕ → Type 0
AppendsShort old new piece = (n : ℕ) × (n < length piece) × Appends old new (take n piece)
