-- The first line of a text, cut off.
use Rattle.std.specs.Prelude.{◌≡◌, ℕ, suc, ◌<◌, ◌≤◌, ◌==◌, List, [], ◌∷◌, length, take, drop, if◌then◌else◌}
use Rattle.rl_defs.specs.Lines.{lines_of}
use Rattle.rl_text.specs.Places.{Ends}

-- The first line has so many bytes, and so many with what ends it.
pub record IsCut (bytes : List ℕ) (text whole : ℕ) : Type 0 where
  pub first : lines_of bytes ≡ take text bytes ∷ lines_of (drop whole bytes)
  pub ends : Ends bytes text whole
  pub less : text ≤ whole
  pub some : 0 < whole
  pub within : whole ≤ length bytes

-- how many bytes of a line stand before a carriage return at its end
abbrev pub kept : List ℕ → ℕ
kept [] = 0
kept (c ∷ []) = if c == 13 then 0 else 1
kept (c ∷ d ∷ more) = suc (kept (d ∷ more))
