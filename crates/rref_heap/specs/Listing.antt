-- The list for the sweep.
use Rattle.std.specs.Prelude.{ℕ, ◌≤◌, List, [], ◌∷◌, ⊤}

-- the numbers that are listed for the sweep, and how many more may be listed without memory
pub record ListingValue : Type 0 where
  pub numbers : List ℕ
  pub spare : ℕ

-- each number is at least the next
abbrev pub Falls : List ℕ → Type 0
Falls [] = ⊤
Falls (x ∷ []) = ⊤
Falls (x ∷ (y ∷ ys)) = (y ≤ x) × Falls (y ∷ ys)
