-- The canonical lines that are still to be written.
use Rattle.std.specs.Prelude.{◌≡◌, ℕ, List, [], ◌∷◌, All, Option, Some, None}
use Rattle.rl_text.specs.declared.line.Line.{Line}
use Rattle.rl_text.specs.Places.{IsWithin}

-- the places of lines are those of bytes of the text
abbrev pub AreInside : List ℕ → List Line → Type 0
AreInside bytes lines = All (λ line. IsWithin bytes line) lines

-- the first of some lines is taken, and these are left
abbrev pub Takes : List (List ℕ) → Option (List ℕ) → List (List ℕ) → Type 0
Takes queue None left = (queue ≡ []) × (left ≡ [])
Takes queue (Some line) left = queue ≡ line ∷ left
