-- The commands, by their words.
use Rattle.std.specs.Prelude.{◌≡◌, ℕ, List, [], ◌∷◌, Option, Some, None, codes}
use Rattle.redleaf_app.specs.declared.command.Command.{Command}
use Rattle.redleaf_app.specs.declared.command.Command.TheVariants as command

-- the words after the program's name
abbrev pub words_of : Command → List (List ℕ)
words_of command.Check = codes "check" ∷ []
words_of command.Run = codes "run" ∷ []

-- the words are of no command
abbrev pub AreOfNone : List (List ℕ) → Type 0
AreOfNone words = (c : Command) → words ≡ words_of c → ⊥

-- the words are of this command, or of none
abbrev pub IsCommandOf : List (List ℕ) → Option Command → Type 0
IsCommandOf words None = AreOfNone words
IsCommandOf words (Some c) = words ≡ words_of c
