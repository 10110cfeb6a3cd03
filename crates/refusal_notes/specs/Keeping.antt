-- What is kept of bytes as they pass.
use Rattle.std.specs.Prelude.{◌≡◌, ℕ, List, ◌++◌, take, Option, Some, None, Result, Ok, Err}

-- bytes are put behind those that were kept, or all are given up
abbrev pub Keeps : Option (List ℕ) → List ℕ → Option (List ℕ) → Type 0
Keeps None bytes after = after ≡ None
Keeps (Some before) bytes None = Unit {0}
Keeps (Some before) bytes (Some after) = after ≡ before ++ bytes

-- a call kept the first bytes of a piece, as many as it answers; a call that failed kept none
abbrev pub KeepsTaken : {E : Type 0} → Option (List ℕ) → Result ℕ E → List ℕ → Option (List ℕ) → Type 0
KeepsTaken before (Ok n) piece after = Keeps before (take n piece) after
KeepsTaken before (Err e) piece after = after ≡ before

-- a source or a sink, and what was kept of what passed
pub record Kept (T : Type 0) : Type 0 where
  pub inner : T
  pub bytes : Option (List ℕ)
