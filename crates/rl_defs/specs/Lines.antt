-- The lines of a text.
use Rattle.std.specs.Prelude.{ℕ, Bool, false, ◌&&◌, ◌==◌, List, [], ◌∷◌, if◌then◌else◌}

-- the next byte is a line feed
abbrev pub ends_line : List ℕ → Bool
ends_line [] = false
ends_line (c ∷ cs) = c == 10

-- A byte that stands before the lines behind it belongs to the first of them.
abbrev pub put_first : ℕ → List (List ℕ) → List (List ℕ)
put_first c [] = (c ∷ []) ∷ []
put_first c (line ∷ lines) = (c ∷ line) ∷ lines

-- The lines of a text, without what ends them. A line feed ends a line. A carriage return just before it is dropped. What stands
-- behind the last line feed is a line too, if it is anything. Lines are numbered from 1.
abbrev pub lines_of : List ℕ → List (List ℕ)
lines_of [] = []
lines_of (c ∷ cs) = if c == 10 then [] ∷ lines_of cs else (if (c == 13) && ends_line cs then lines_of cs else put_first c (lines_of cs))
