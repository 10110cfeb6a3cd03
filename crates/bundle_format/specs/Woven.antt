-- A bundle as it is written: line by line, each at its place, in its canonical spelling and with its comment.
use Rattle.std.specs.Prelude.{◌≡◌, ℕ, ◌+◌, ◌-◌, ◌⊎◌, ◌==◌, nat_lt, not, List, [], ◌∷◌, ◌++◌, length, take, drop, replicate, filter, Option, Some, None, if◌then◌else◌}
use Rattle.std.specs.List.{prefix_len}
use Rattle.rl_defs.specs.Tokens.{Token, Placed, HasPlaced, HasTokens, is_blank}
use Rattle.bundle_parts.specs.Headers.{begins_with_bracket}

-- the place behind the last of these tokens
abbrev pub behind_last : ℕ → List Placed → ℕ
behind_last place [] = place
behind_last place (p ∷ ps) = behind_last p.stop ps

-- The tokens of a line end here. A line without tokens has its end at its front.
abbrev pub TokensEnd : List ℕ → ℕ → Type 0
TokensEnd text stop = (ps : List Placed) × HasPlaced ps text × (stop ≡ behind_last 0 ps)

-- where they end, or that the line can have none
abbrev pub EndsAt : List ℕ → Option ℕ → Type 0
EndsAt text None = (ts : List Token) → HasTokens ts text → ⊥
EndsAt text (Some stop) = TokensEnd text stop

-- where the comment stands behind tokens that end here: behind the blanks there
abbrev pub column_of : ℕ → List ℕ → ℕ
column_of stop text = stop + prefix_len is_blank (drop stop text)

-- how many blanks stand before a comment: it keeps its column, or stands one blank behind the tokens where they reach that far
abbrev pub gap_before : ℕ → ℕ → ℕ
gap_before used column = if used == 0 then column else (if nat_lt used column then column - used else 1)

-- the comment of a line behind so many bytes, with the blanks before it
abbrev pub tail_of : ℕ → ℕ → List ℕ → List ℕ
tail_of used column [] = []
tail_of used column (c ∷ cs) = replicate (gap_before used column) 32 ++ (c ∷ cs)

-- a text without blanks and TABs
abbrev pub unspaced : List ℕ → List ℕ
unspaced text = filter (λ c. not (is_blank c)) text

-- the first of the canonical lines that are left, or this text where none is left
abbrev pub first_or : List ℕ → List (List ℕ) → List ℕ
first_or text [] = text
first_or text (line ∷ lines) = line

abbrev pub others : List (List ℕ) → List (List ℕ)
others [] = []
others (line ∷ lines) = lines

-- The tokens of a line as they are written: nothing where there are none, a header without blanks, and else the next canonical line.
abbrev pub spelled : ℕ → List ℕ → List (List ℕ) → List ℕ
spelled stop text queue = if stop == 0 then [] else (if begins_with_bracket text then unspaced (take stop text) else first_or (take stop text) queue)

-- the canonical lines that are left then
abbrev pub left_behind : ℕ → List ℕ → List (List ℕ) → List (List ℕ)
left_behind stop text queue = if stop == 0 then queue else (if begins_with_bracket text then queue else others queue)

-- a whole line, without its line feed
abbrev pub with_comment : List ℕ → ℕ → List ℕ → List ℕ
with_comment tokens column text = tokens ++ tail_of (length tokens) column (drop column text)

-- A line is written so: its tokens and its comment, or as it is where it can have no tokens.
abbrev pub IsLineOf : List (List ℕ) → List ℕ → List ℕ → List (List ℕ) → Type 0
IsLineOf queue text line left =
    ((stop : ℕ) × TokensEnd text stop × (line ≡ with_comment (spelled stop text queue) (column_of stop text) text) × (left ≡ left_behind stop text queue))
    ⊎ (((ts : List Token) → HasTokens ts text → ⊥) × (line ≡ text) × (left ≡ queue))

-- Lines are written so, each with a line feed, and the canonical lines are these.
abbrev pub AreWoven : List (List ℕ) → List (List ℕ) → List ℕ → Type 0
AreWoven queue [] out = out ≡ []
AreWoven queue (text ∷ texts) out =
    (line : List ℕ) × (left : List (List ℕ)) × (more : List ℕ) × IsLineOf queue text line left × (out ≡ line ++ 10 ∷ more) × AreWoven left texts more

-- the bytes of a line were put behind some bytes
abbrev pub IsWritten : List (List ℕ) → List ℕ → List (List ℕ) → List ℕ → List ℕ → Type 0
IsWritten queue text left old new = (line : List ℕ) × IsLineOf queue text line left × (new ≡ old ++ line)

-- a line was put behind some bytes, with its line feed
abbrev pub IsPut : List (List ℕ) → List ℕ → List (List ℕ) → List ℕ → List ℕ → Type 0
IsPut queue text left old new = (line : List ℕ) × IsLineOf queue text line left × (new ≡ old ++ (line ++ 10 ∷ []))
