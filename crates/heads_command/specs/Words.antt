-- The words of the command.
use Rattle.std.specs.Prelude.{◌≡◌, ℕ, ◌≤◌, List, [], ◌∷◌, codes}
use Rattle.std.specs.Fmt.{decimal}

-- a word spells a number of heads
pub record IsNumberOf (word : List ℕ) (n : ℕ) : Type 0 where
  pub spells : word ≡ decimal n
  pub some : 1 ≤ n
  pub few : n ≤ 4096

-- the words after the program's name ask for so many heads
pub record AreWordsFor (words : List (List ℕ)) (n : ℕ) : Type 0 where
  pub number : List ℕ
  pub are : words ≡ codes "heads" ∷ number ∷ []
  pub of : IsNumberOf number n
