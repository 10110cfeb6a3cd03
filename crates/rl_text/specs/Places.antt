-- Lines by their places in a text.
use Rattle.std.specs.Prelude.{◌≡◌, ℕ, ◌+◌, ◌≤◌, ◌⊎◌, List, [], ◌∷◌, length, slice_get, slice_range, Some}
use Rattle.rl_text.specs.declared.line.Line.{Line}

-- the bytes of a line
abbrev pub text_of : List ℕ → Line → List ℕ
text_of bytes line = slice_range bytes line.start line.«end»

-- The places are those of bytes of the text.
pub record IsWithin (bytes : List ℕ) (line : Line) : Type 0 where
  pub ordered : line.start ≤ line.«end»
  pub inside : line.«end» ≤ length bytes

-- a line feed, a carriage return and a line feed, or the end of the text stand from a place up to the next line
abbrev pub Ends : List ℕ → ℕ → ℕ → Type 0
Ends bytes place next =
    ((slice_get bytes place ≡ Some 10) × (next ≡ place + 1))
    ⊎ (((slice_get bytes place ≡ Some 13) × (slice_get bytes (place + 1) ≡ Some 10) × (next ≡ place + 2))
    ⊎ ((length bytes ≡ place) × (next ≡ place)))

-- Lines one after the other, without a gap: the first has this number and begins at this place, and behind the last one the rest
-- of the text begins at the last place.
abbrev pub Follow : List ℕ → ℕ → ℕ → List Line → ℕ → Type 0
Follow bytes number place [] last = place ≡ last
Follow bytes number place (line ∷ lines) last = (line.number ≡ number) × (line.start ≡ place) × IsWithin bytes line × ((next : ℕ) × Ends bytes line.«end» next × Follow bytes (number + 1) next lines last)

-- These are all lines of the text.
abbrev pub AreLines : List ℕ → List Line → Type 0
AreLines bytes lines = Follow bytes 1 0 lines (length bytes)

-- Lines of the text whose numbers go up by 1 from this one.
abbrev pub AreNumbered : List ℕ → ℕ → List Line → Type 0
AreNumbered bytes number [] = Unit {0}
AreNumbered bytes number (line ∷ lines) = (line.number ≡ number) × IsWithin bytes line × AreNumbered bytes (number + 1) lines

-- the number of the first line, or 1 where there is none
abbrev pub first_number : List Line → ℕ
first_number [] = 1
first_number (line ∷ lines) = line.number
