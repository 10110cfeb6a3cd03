-- What is put behind a text.
use Rattle.std.specs.Prelude.{◌≡◌, ℕ, ◌++◌, List, Result, MatchResult}
use Rattle.std.specs.Io.{StartsWith}
use Rattle.std.specs.Fmt.{decimal}
use Rattle.machine_defs.specs.Texts.{spaced}

-- A text is put behind what was there; where memory is wanted, what was there is still in front.
abbrev pub PutsText : {E : Type 0} → Result (Unit {0}) E → List ℕ → List ℕ → List ℕ → Type 0
PutsText result old new says = MatchResult result (λ _. new ≡ old ++ says) (λ _. StartsWith new old)

-- a word and a number, each behind a blank
abbrev pub count_text : List ℕ → ℕ → List ℕ
count_text says n = spaced says ++ spaced (decimal n)
